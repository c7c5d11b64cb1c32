-- A node with each child filled: it has the normal form of the node, and where the table knows the names its children are full.
use Rattle.std.proofs.Common.{◌≡◌, ℕ, suc, zero, ◌+◌, ◌<◌, ◌≤◌, List, [], ◌∷◌, ◌++◌, length, take, drop, map, get_or, refl, slice_index, ap, ◌∙◌, sym, subst, arith, inl, inr, true, false, true≢false}
use Rattle.std.specs.List.{zip}
use Rattle.std.proofs.lemmas.List.{take_at, drop_at, take_more, drop_more, take-append-drop}
use Rattle.slotted_lists.proofs.Members.{In, In-append, In-of_map, In-take, In-drop, In-first}
use Rattle.slotted_lists.proofs.Each.{Each, Each-append, Each-from_All, Each-join}
use Rattle.slotted_lists.proofs.Maps.{zip-keys_values, In-zip}
use Rattle.slotted_theory.specs.Nameless.{scope, sub, extend, nameless_args}
use Rattle.slotted_theory.specs.Renaming.{IsInjective}
use Rattle.slotted_theory.proofs.Names.{extend-other, extend-injective}
use Rattle.slotted_theory.proofs.Values.{child_before}
use Rattle.slotted_slots.specs.Maps.{keys, values}
use Rattle.slotted_slots.specs.Table.{Table, is_known, KnowsMore, AllKnown}
use Rattle.slotted_nodes.specs.Form.{Form, Tree, leaf, own, child, bind, scopes, children}
use Rattle.slotted_languages.specs.NodeTerm.{nameless_node, own_names, node_args}
use Rattle.slotted_languages.specs.Shape.{Fits}
use Rattle.slotted_languages.proofs.NodeTerms.{own_fits, child_keys_fit, child_rest_fits, bind_inner_fits, bind_rest_fits}
use Rattle.slotted_model.specs.Applied.{Applied, renamed_id, as_term}
use Rattle.slotted_model.specs.Classes.{IsFull}
use Rattle.slotted_model.specs.Filling.{IsFilling, FillsArgs, FillsNode}
use Rattle.slotted_model.specs.Find.{find, used_slots}
use Rattle.slotted_model.specs.Normal.{EqualInTurn}
use Rattle.slotted_model.proofs.Represented.FilledNodes.{in_turn-normal}
use Rattle.slotted_model.proofs.Finds.NormalIds.{found-renamed}
use Rattle.slotted_classes.specs.ChildIds.{ids_in, child_ids}
use Rattle.slotted_classes.specs.Finding.{IsFindable}
use Rattle.slotted_classes.specs.Kept.{Kept, nodes_of, entries_of}
use Rattle.slotted_classes.proofs.ChildIds.{atom-is, length-ids}
use Rattle.slotted_hashcons.specs.NormalNodes.{HasFindableChildren}
use Rattle.slotted_hashcons.proofs.FoundChildren.{Each-at, child_ids-valid, applied-atom}
use Rattle.slotted_lookup.specs.Filling.{HasFullChildren, HasOneNormalForm, MakesAtMost, RunsOut, with_fresh, filled_id, filled_ids, filled_node, missing, missing_in, missing_of, tree_over, names_over, node_over}
use Rattle.slotted_lookup.proofs.IdFillings.{FillsNew, Knows, knows, all_known, known-apart, filled-new, new-renamed, filled-found, filled-known, filled-whole, with_fresh-more}
use Rattle.slotted_lookup.proofs.NodesOver.{over_fits, names_fit, child_ids-over, node_over-own}

-- ids in turn

-- the relation holds of the ids of two lists, place by place
abbrev pub InTurn : (Applied → Applied → Type 0) → List Applied → List Applied → Type 0
InTurn R [] [] = Unit {0}
InTurn R [] (q ∷ qs) = ⊥
InTurn R (p ∷ ps) [] = ⊥
InTurn R (p ∷ ps) (q ∷ qs) = R p q × InTurn R ps qs

in_turn-split : (R : Applied → Applied → Type 0) (ps rs qs : List Applied) → InTurn R (ps ++ rs) qs → (n : ℕ) → length ps ≡ n → InTurn R ps (take n qs) × InTurn R rs (drop n qs)
in_turn-split R [] rs qs h zero e = (tt, h)
in_turn-split R [] rs qs h (suc n) e = absurd (omega arith)
in_turn-split R (p ∷ ps) rs [] h n e = absurd h
in_turn-split R (p ∷ ps) rs (q ∷ qs) h zero e = absurd (omega arith)
in_turn-split R (p ∷ ps) rs (q ∷ qs) h (suc n) e = let r = in_turn-split R ps rs qs h.1 n (omega arith) in ((h.0, r.0), r.1)

in_turn-second : (R : Applied → Applied → Type 0) (P : Applied → Type 0) → ((p q : Applied) → R p q → P q) → (ps qs : List Applied) → InTurn R ps qs → Each P qs
in_turn-second R P f [] [] h = tt
in_turn-second R P f [] (q ∷ qs) h = absurd h
in_turn-second R P f (p ∷ ps) [] h = absurd h
in_turn-second R P f (p ∷ ps) (q ∷ qs) h = (f p q h.0, in_turn-second R P f ps qs h.1)

-- some ids filled, one after another

-- what holds of each id and what fills it from any index on
filled-in_turn : (k : Kept) (R : Applied → Applied → Type 0) (P : Applied → Type 0) (b : ℕ) → ((c : ℕ) (p : Applied) → b ≤ c → P p → R p (filled_id k c p)) →
    (c : ℕ) (ps : List Applied) → b ≤ c → Each P ps → InTurn R ps (filled_ids k c ps)
filled-in_turn k R P b f c [] l h = tt
filled-in_turn k R P b f c (p ∷ ps) l h = (f c p l h.0, filled-in_turn k R P b f (c + missing k p) ps (omega (arith, l)) h.1)

pub length-filled : (k : Kept) (c : ℕ) (ps : List Applied) → length (filled_ids k c ps) ≡ length ps
length-filled k c [] = refl
length-filled k c (p ∷ ps) = ap suc (length-filled k (c + missing k p) ps)

filled-append : (k : Kept) (c : ℕ) (ps qs : List Applied) → filled_ids k c (ps ++ qs) ≡ filled_ids k c ps ++ filled_ids k (c + missing_in k ps) qs
filled-append k c [] qs = let e : c ≡ c + 0 = omega arith in ap (λ n. filled_ids k n qs) e
filled-append k c (p ∷ ps) qs =
    let d = c + missing k p in
    let e : d + missing_in k ps ≡ c + missing_in k (p ∷ ps) = omega arith in
    ap (λ rs. filled_id k c p ∷ rs) (filled-append k d ps qs ∙ ap (λ n. filled_ids k d ps ++ filled_ids k n qs) e)

missing-append : (k : Kept) (ps qs : List Applied) → missing_in k (ps ++ qs) ≡ missing_in k ps + missing_in k qs
missing-append k [] qs = omega arith
missing-append k (p ∷ ps) qs = omega (arith, missing-append k ps qs)

-- one more
pub filled-more : (k : Kept) (c : ℕ) (ps : List Applied) (i : ℕ) (d : Applied) → i < length ps → filled_ids k c (take (i + 1) ps) ≡ filled_ids k c (take i ps) ++ filled_id k (c + missing_in k (take i ps)) (get_or ps i d) ∷ []
filled-more k c ps i d l = ap (filled_ids k c) (take_more ps i d l) ∙ filled-append k c (take i ps) (get_or ps i d ∷ [])

pub missing-more : (k : Kept) (ps : List Applied) (i : ℕ) (d : Applied) → i < length ps → missing_in k (take (i + 1) ps) ≡ missing_in k (take i ps) + missing k (get_or ps i d)
missing-more k ps i d l =
    let e : missing_in k (take (i + 1) ps) ≡ missing_in k (take i ps ++ get_or ps i d ∷ []) = ap (missing_in k) (take_more ps i d l) in
    omega (arith, e, missing-append k (take i ps) (get_or ps i d ∷ []))

pub missing-within : (k : Kept) (ps : List Applied) (i : ℕ) (d : Applied) → i < length ps → missing_in k (take i ps) + missing k (get_or ps i d) ≤ missing_in k ps
missing-within k ps i d l =
    let e : missing_in k ps ≡ missing_in k (take i ps ++ drop i ps) = ap (missing_in k) (sym (take-append-drop i ps)) in
    let f : missing_in k (drop i ps) ≡ missing_in k (get_or ps i d ∷ drop (i + 1) ps) = ap (missing_in k) (drop_more ps i d l) in
    omega (arith, e, f, missing-append k (take i ps) (drop i ps))

-- where all are full they stay
filled-all_whole : (k : Kept) (c : ℕ) (ps : List Applied) → Each (IsFull (nodes_of k)) ps → filled_ids k c ps ≡ ps
filled-all_whole k c [] h = refl
filled-all_whole k c (p ∷ ps) h = λ i. filled-whole k c p h.0 i ∷ filled-all_whole k (c + missing k p) ps h.1 i

-- what is made after some fresh slots
pub makes-after : (n m l : ℕ) (t u v : Table) → u ≡ with_fresh n t → MakesAtMost m u v → n + m ≤ l → MakesAtMost l t v
makes-after n m l t u v e p h =
    let f : u.fresh ≡ t.fresh + n = ap (λ (w : Table). w.fresh) e in
    record { names = p.names ∙ ap (λ (w : Table). w.names) e; taken = omega (arith, f, p.taken, h) }

pub runs_out-after : (n m l : ℕ) (t u v : Table) → u ≡ with_fresh n t → RunsOut m u v → n + m ≤ l → RunsOut l t v
runs_out-after n m l t u v e p h =
    let f : u.fresh ≡ t.fresh + n = ap (λ (w : Table). w.fresh) e in
    record { lacks = omega (arith, f, p.lacks, h); used = p.used }

-- names of a node and of its children

knows-taken : (t : Table) (n : ℕ) (xs : List ℕ) → Knows t xs → Knows t (take n xs)
knows-taken t n xs h x i = h x (In-take n xs x i)

knows-dropped : (t : Table) (n : ℕ) (xs : List ℕ) → Knows t xs → Knows t (drop n xs)
knows-dropped t n xs h x i = h x (In-drop n xs x i)

-- a table that knows the names of a node knows those of each child
knows-ids : (t : Table) (u : Tree) (xs : List ℕ) → Knows t xs → Each (λ (a : Applied). Knows t (values a.1)) (ids_in u xs)
knows-ids t leaf xs h = tt
knows-ids t (own r) xs h = knows-ids t r (drop 1 xs) (knows-dropped t 1 xs h)
knows-ids t (child i ks r) xs h =
    (λ x g. h x (In-take (length ks) xs x (In-zip ks (take (length ks) xs) x g)), knows-ids t r (drop (length ks) xs) (knows-dropped t (length ks) xs h))
knows-ids t (bind u r) xs h =
    let n = length (scopes u) in
    let below = knows-dropped t 1 xs h in
    Each-join (λ (a : Applied). Knows t (values a.1)) (ids_in u (take n (drop 1 xs))) (ids_in r (drop n (drop 1 xs)))
    (knows-ids t u (take n (drop 1 xs)) (knows-taken t n (drop 1 xs) below))
    (knows-ids t r (drop n (drop 1 xs)) (knows-dropped t n (drop 1 xs) below))

-- and one that knows those of the other children too knows those of the node over them
knows-over : (t : Table) (u : Tree) (xs : List ℕ) (bs : List Applied) → length xs ≡ length (scopes u) → Knows t xs → Each (λ (b : Applied). Knows t (values b.1)) bs → Knows t (names_over u xs bs)
knows-over t leaf xs bs n h g x i = h x i
knows-over t (own r) xs bs n h g x (inl e) = subst (λ y. is_known t y ≡ true) (sym e) (h (slice_index xs 0) (In-first xs (length (scopes r)) n))
knows-over t (own r) xs bs n h g x (inr i) = knows-over t r (drop 1 xs) bs (own_fits r xs n) (knows-dropped t 1 xs h) g x i
knows-over t (child j ks r) xs [] n h g x i = h x i
knows-over t (child j ks r) xs (b ∷ bs) n h g x i = elim (In-append x (values b.1) (names_over r (drop (length ks) xs) bs) i) [
  | inl e ↦ g.0 x e
  | inr e ↦ knows-over t r (drop (length ks) xs) bs (child_rest_fits j ks r xs n) (knows-dropped t (length ks) xs h) g.1 x e
]
knows-over t (bind u r) xs bs n h g x (inl e) = subst (λ y. is_known t y ≡ true) (sym e) (h (slice_index xs 0) (In-first xs (length (scopes u ++ scopes r)) n))
knows-over t (bind u r) xs bs n h g x (inr i) =
    let m = length (scopes u) in
    let k = length (children u) in
    let below = knows-dropped t 1 xs h in
    let each = Each-append (λ (b : Applied). Knows t (values b.1)) (take k bs) (drop k bs) (subst (Each (λ (b : Applied). Knows t (values b.1))) (sym (take-append-drop k bs)) g) in
    elim (In-append x (names_over u (take m (drop 1 xs)) (take k bs)) (names_over r (drop m (drop 1 xs)) (drop k bs)) i) [
      | inl e ↦ knows-over t u (take m (drop 1 xs)) (take k bs) (bind_inner_fits u r xs n) (knows-taken t m (drop 1 xs) below) each.0 x e
      | inr e ↦ knows-over t r (drop m (drop 1 xs)) (drop k bs) (bind_rest_fits u r xs n) (knows-dropped t m (drop 1 xs) below) each.1 x e
    ]

-- the nameless form

-- another child, before the arguments that follow
pub child-over : (ρ : ℕ → ℕ) (b : Applied) (r : Tree) (ys : List ℕ) → nameless_args ρ (node_args (child b.0 (keys b.1) r) (values b.1 ++ ys)) ≡ child_before (as_term (renamed_id ρ b)) (nameless_args ρ (node_args r ys))
child-over ρ b r ys =
    let l : length (values b.1) ≡ length (keys b.1) = names_fit b.1 in
    (λ j. sub 0 ((b.0 ∷ keys b.1) ∷ []) (nameless_args ρ (own_names (take_at (values b.1) ys (length (keys b.1)) l j))) (nameless_args ρ (node_args r (drop_at (values b.1) ys (length (keys b.1)) l j))))
    ∙ ap (λ d. child_before d (nameless_args ρ (node_args r ys))) (atom-is ρ b.0 (keys b.1) (values b.1) l ∙ ap (λ m. as_term (renamed_id ρ (b.0, m))) (zip-keys_values b.1))

-- a binder over other children, before the arguments that follow
pub binder-over : (ρ : ℕ → ℕ) (x : ℕ) (u r : Tree) (vs ws : List ℕ) → length vs ≡ length (scopes u) → nameless_args ρ (node_args (bind u r) (x ∷ vs ++ ws)) ≡ scope (nameless_args (extend x ρ) (node_args u vs)) (nameless_args ρ (node_args r ws))
binder-over ρ x u r vs ws l =
    λ i. scope (nameless_args (extend x ρ) (node_args u (take_at vs ws (length (scopes u)) l i))) (nameless_args ρ (node_args r (drop_at vs ws (length (scopes u)) l i)))

-- where children and those in their places find alike, so do those of the nameless forms
alike-over : (k : Kept) (ρ : ℕ → ℕ) (t : Tree) (xs : List ℕ) (bs : List Applied) → length xs ≡ length (scopes t) → InTurn (λ a b. find (entries_of k) a ≡ find (entries_of k) b) (ids_in t xs) bs →
    EqualInTurn (entries_of k) (nameless_args ρ (node_args t xs)) (nameless_args ρ (node_args (tree_over t bs) (names_over t xs bs)))
alike-over k ρ leaf xs bs n h = refl
alike-over k ρ (own r) xs bs n h =
    (nameless_args ρ (node_args (tree_over r bs) (names_over r (drop 1 xs) bs)), refl, alike-over k ρ r (drop 1 xs) bs (own_fits r xs n) h)
alike-over k ρ (child i ks r) xs [] n h = absurd h
alike-over k ρ (child i ks r) xs (b ∷ bs) n h =
    let vs = take (length ks) xs in
    let a : Applied = (i, zip ks vs) in
    let found = entries_of k in (
      renamed_id ρ b,
      nameless_args ρ (node_args (tree_over r bs) (names_over r (drop (length ks) xs) bs)),
      child-over ρ b (tree_over r bs) (names_over r (drop (length ks) xs) bs),
      ap (find found) (applied-atom ρ i ks vs (child_keys_fit i ks r xs n)) ∙ (found-renamed found ρ a ∙ (ap (renamed_id ρ) h.0 ∙ sym (found-renamed found ρ b))),
      alike-over k ρ r (drop (length ks) xs) bs (child_rest_fits i ks r xs n) h.1,
    )
alike-over k ρ (bind u r) xs bs n h =
    let m = length (scopes u) in
    let c = length (children u) in
    let x = slice_index xs 0 in
    let inner = take m (drop 1 xs) in
    let rest = drop m (drop 1 xs) in
    let us = take c bs in
    let rs = drop c bs in
    let s = in_turn-split (λ a b. find (entries_of k) a ≡ find (entries_of k) b) (ids_in u inner) (ids_in r rest) bs h c (length-ids u inner) in (
      nameless_args (extend x ρ) (node_args (tree_over u us) (names_over u inner us)),
      nameless_args ρ (node_args (tree_over r rs) (names_over r rest rs)),
      binder-over ρ x (tree_over u us) (tree_over r rs) (names_over u inner us) (names_over r rest rs) (over_fits u inner us (bind_inner_fits u r xs n)),
      alike-over k (extend x ρ) u inner us (bind_inner_fits u r xs n) s.0,
      alike-over k ρ r rest rs (bind_rest_fits u r xs n) s.1,
    )

-- under a binder that the table knows, no unknown slot becomes the binder or a name that is given
apart-under : (t : Table) (x : ℕ) (ρ : ℕ → ℕ) (given : List ℕ) → is_known t x ≡ true → ((y : ℕ) → is_known t y ≡ false → ¬ In (ρ y) given) → (y : ℕ) → is_known t y ≡ false → ¬ In (extend x ρ y) (0 ∷ map suc given)
apart-under t x ρ given known apart y e h =
    let other : extend x ρ y ≡ suc (ρ y) = extend-other x ρ y (λ q. true≢false (sym known ∙ (ap (is_known t) (sym q) ∙ e))) in
    elim (subst (λ z. In z (0 ∷ map suc given)) other h) [
      | inl z ↦ absurd (omega (arith, z))
      | inr i ↦
          let r : (z : ℕ) × In z given × (suc (ρ y) ≡ suc z) = In-of_map suc given (suc (ρ y)) i in
          let q : r.0 ≡ ρ y = omega (arith, r.2) in
          apart y e (subst (λ z. In z given) q r.1)
    ]

-- where each child is filled by unknown slots, so is each child of the nameless form
fills-over : (k : Kept) (t : Table) (ρ : ℕ → ℕ) → IsInjective ρ → (given : List ℕ) → ((y : ℕ) → is_known t y ≡ false → ¬ In (ρ y) given) →
    (v : Tree) (xs : List ℕ) (bs : List Applied) → length xs ≡ length (scopes v) → Knows t xs → InTurn (FillsNew k t) (ids_in v xs) bs →
    FillsArgs (nodes_of k) given (nameless_args ρ (node_args v xs)) (nameless_args ρ (node_args (tree_over v bs) (names_over v xs bs)))
fills-over k t ρ inj given apart leaf xs bs n known h = refl
fills-over k t ρ inj given apart (own r) xs bs n known h = (
  nameless_args ρ (node_args (tree_over r bs) (names_over r (drop 1 xs) bs)),
  refl,
  fills-over k t ρ inj given apart r (drop 1 xs) bs (own_fits r xs n) (knows-dropped t 1 xs known) h,
)
fills-over k t ρ inj given apart (child i ks r) xs [] n known h = absurd h
fills-over k t ρ inj given apart (child i ks r) xs (b ∷ bs) n known h =
    let vs = take (length ks) xs in
    let a : Applied = (i, zip ks vs) in (
      renamed_id ρ b,
      nameless_args ρ (node_args (tree_over r bs) (names_over r (drop (length ks) xs) bs)),
      child-over ρ b (tree_over r bs) (names_over r (drop (length ks) xs) bs),
      subst (λ p. IsFilling (nodes_of k) given p (renamed_id ρ b)) (sym (applied-atom ρ i ks vs (child_keys_fit i ks r xs n))) (new-renamed k t a b h.0 ρ inj given apart),
      fills-over k t ρ inj given apart r (drop (length ks) xs) bs (child_rest_fits i ks r xs n) (knows-dropped t (length ks) xs known) h.1,
    )
fills-over k t ρ inj given apart (bind u r) xs bs n known h =
    let m = length (scopes u) in
    let c = length (children u) in
    let x = slice_index xs 0 in
    let inner = take m (drop 1 xs) in
    let rest = drop m (drop 1 xs) in
    let us = take c bs in
    let rs = drop c bs in
    let below = knows-dropped t 1 xs known in
    let binder : is_known t x ≡ true = known x (In-first xs (length (scopes u ++ scopes r)) n) in
    let s = in_turn-split (FillsNew k t) (ids_in u inner) (ids_in r rest) bs h c (length-ids u inner) in (
      nameless_args (extend x ρ) (node_args (tree_over u us) (names_over u inner us)),
      nameless_args ρ (node_args (tree_over r rs) (names_over r rest rs)),
      binder-over ρ x (tree_over u us) (tree_over r rs) (names_over u inner us) (names_over r rest rs) (over_fits u inner us (bind_inner_fits u r xs n)),
      fills-over k t (extend x ρ) (extend-injective x ρ inj) (0 ∷ map suc given) (apart-under t x ρ given binder apart) u inner us (bind_inner_fits u r xs n) (knows-taken t m (drop 1 xs) below) s.0,
      fills-over k t ρ inj given apart r rest rs (bind_rest_fits u r xs n) (knows-dropped t m (drop 1 xs) below) s.1,
    )

-- the node with each child filled

module _ (k : Kept) (t : Table) (f : Form) (fits : Fits f) where
  count : length (filled_ids k t.fresh (child_ids f)) ≡ length (children f.tree)
  count = length-filled k t.fresh (child_ids f) ∙ length-ids f.tree f.names

  module _ (findable : HasFindableChildren k f) where
    each-findable : Each (IsFindable k) (child_ids f)
    each-findable = child_ids-valid (used_slots (entries_of k)) (nodes_of k) f fits findable

    -- it has the normal form of the node
    pub node-normal : HasOneNormalForm k f (filled_node k t.fresh f)
    node-normal =
        let alike = filled-in_turn k (λ a b. find (entries_of k) a ≡ find (entries_of k) b) (IsFindable k) 0 (λ c p l v. filled-found k c p v) t.fresh (child_ids f) (omega arith) each-findable in
        sym (in_turn-normal (entries_of k) (nameless_node f) (nameless_node (filled_node k t.fresh f)) refl refl
        (alike-over k (λ x. x) f.tree f.names (filled_ids k t.fresh (child_ids f)) fits alike))

    module _ (known : AllKnown t f.names) where
      -- each child is filled by unknown slots
      each-new : InTurn (FillsNew k t) (child_ids f) (filled_ids k t.fresh (child_ids f))
      each-new =
          filled-in_turn k (FillsNew k t) (λ (a : Applied). IsFindable k a × Knows t (values a.1)) t.fresh (λ c p l h. filled-new k t c p h.0 h.1 l) t.fresh (child_ids f) (omega arith)
          (Each-pairs (child_ids f) each-findable (knows-ids t f.tree f.names (knows t f.names known)))
        where
          Each-pairs : (ps : List Applied) → Each (IsFindable k) ps → Each (λ (a : Applied). Knows t (values a.1)) ps → Each (λ (a : Applied). IsFindable k a × Knows t (values a.1)) ps
          Each-pairs [] h g = tt
          Each-pairs (p ∷ ps) h g = ((h.0, g.0), Each-pairs ps h.1 g.1)

      -- so its children are full
      pub node-full : HasFullChildren k (filled_node k t.fresh f)
      node-full j d l =
          let e = child_ids-over f (filled_ids k t.fresh (child_ids f)) fits count in
          let each = in_turn-second (FillsNew k t) (IsFull (nodes_of k)) (λ p q h. h.full) (child_ids f) (filled_ids k t.fresh (child_ids f)) each-new in
          Each-at (IsFull (nodes_of k)) (child_ids (filled_node k t.fresh f)) j d (subst (Each (IsFull (nodes_of k))) (sym e) each) l

      pub node-fills : (given : List ℕ) → AllKnown t given → FillsNode (nodes_of k) given (nameless_node f) (nameless_node (filled_node k t.fresh f))
      node-fills given given_known = record {
        operator = refl;
        payloads = refl;
        children = fills-over k t (λ x. x) (λ x y e. e) given (known-apart t given (knows t given given_known)) f.tree f.names (filled_ids k t.fresh (child_ids f)) fits (knows t f.names known) each-new;
      }

  -- where its children lack no name it stays
  pub node-whole : HasFullChildren k f → filled_node k t.fresh f ≡ f
  node-whole h =
      ap (node_over f) (filled-all_whole k t.fresh (child_ids f) (Each-from_All (IsFull (nodes_of k)) (child_ids f) h)) ∙ node_over-own f fits

  -- the names of the answer are known to the table that made the fresh slots
  pub node-known : (u : Table) → u ≡ with_fresh (missing_of k f) t → AllKnown t f.names → AllKnown u (filled_node k t.fresh f).names
  node-known u e known =
      let more = with_fresh-more t u (missing_of k f) e in
      let room : t.fresh + missing_in k (child_ids f) ≤ u.fresh = let q : u.fresh ≡ t.fresh + missing_of k f = ap (λ (w : Table). w.fresh) e in omega (arith, q) in
      all_known u (filled_node k t.fresh f).names
      (knows-over u f.tree f.names (filled_ids k t.fresh (child_ids f)) fits (λ x h. more x (knows t f.names known x h))
      (each-known u more t.fresh (child_ids f) room (knows-ids t f.tree f.names (knows t f.names known))))
    where
      each-known : (u : Table) → KnowsMore t u → (c : ℕ) (ps : List Applied) → c + missing_in k ps ≤ u.fresh → Each (λ (a : Applied). Knows t (values a.1)) ps → Each (λ (b : Applied). Knows u (values b.1)) (filled_ids k c ps)
      each-known u more c [] l h = tt
      each-known u more c (p ∷ ps) l h =
          (filled-known k t u c p more (omega (arith, l)) h.0, each-known u more (c + missing k p) ps (omega (arith, l)) h.1)

-- Look-ups from the bottom up, for any look-up of nodes that moves with names: names of answers, and what parts are looked up as.
use Rattle.std.proofs.Common.{◌≡◌, ◌<◌, ◌≤◌, ◌+◌, ◌∙◌, ℕ, zero, suc, List, [], ◌∷◌, ◌++◌, length, take, drop, Option, None, Some, ap, refl, sym, subst, arith, inl, inr, length-append}
use Rattle.std.specs.Prelude.{◌⊎◌, IsSome, map, option_and_then, option_map, slice_index}
use Rattle.std.specs.List.{zip}
use Rattle.std.proofs.lemmas.Bool.{cases_eq, false≢true}
use Rattle.slotted_lists.proofs.Members.{In}
use Rattle.slotted_lists.proofs.Each.{Each}
use Rattle.slotted_lists.proofs.Options.{Some-same}
use Rattle.slotted_lists.proofs.Maps.{values-with_values}
use Rattle.slotted_theory.specs.Nameless.{DTerm, place, scope, extend, moved, nameless, nameless_args, nameless_by}
use Rattle.slotted_theory.specs.Renaming.{IsInjective, swapped}
use Rattle.slotted_theory.specs.Shape.{free_names}
use Rattle.slotted_theory.specs.Term.{Term}
use Rattle.slotted_theory.proofs.Bijections.{swap, swapped-first, swapped-other, to-injective}
use Rattle.slotted_theory.proofs.Laws.{moved-nameless}
use Rattle.slotted_theory.proofs.Names.{extend-injective}
use Rattle.slotted_theory.proofs.Values.{child_before, node}
use Rattle.slotted_nodes.specs.Form.{Form, Tree, leaf, own, child, bind, scopes, children}
use Rattle.slotted_languages.specs.Filled.{filled}
use Rattle.slotted_languages.specs.Filled as form
use Rattle.slotted_languages.specs.NodeTerm.{node_args, own_names}
use Rattle.slotted_languages.proofs.NodeTerms.{own_fits, child_keys_fit, child_rest_fits, bind_inner_fits, bind_rest_fits}
use Rattle.slotted_model.specs.Applied.{Applied, as_term, renamed_id, values}
use Rattle.slotted_model.specs.LookUp.{Renames, both, look_up, look_up_args}
use Rattle.slotted_model.proofs.Represented.LookUps.{look_up-moved}
use Rattle.slotted_model.proofs.Data.Theory.{moved-agrees, moved-id}
use Rattle.slotted_classes.proofs.ChildIds.{atom-is, length-ids}
use Rattle.slotted_operations.specs.Nodes.{ids_in}
use Rattle.slotted_operations.proofs.TermsOverIds.Layers.{Each-parts, length-parts}

decide : (y : ℕ) (xs : List ℕ) → In y xs ⊎ (¬ In y xs)
decide y [] = inr (λ h. h)
decide y (x ∷ xs) = elim (cases_eq y x) [
  | inl e ↦ inl (inl e)
  | inr n ↦ elim (decide y xs) [
    | inl h ↦ inl (inr h)
    | inr m ↦ inr (λ h. elim h [ inl e ↦ n e | inr k ↦ m k ])
  ]
]

-- a number above all of a list
abbrev above : List ℕ → ℕ
above [] = 0
above (x ∷ xs) = suc (x + above xs)

above-each : (x : ℕ) (xs : List ℕ) → In x xs → x < above xs
above-each x [] h = absurd h
above-each x (y ∷ xs) (inl e) = omega (arith, e)
above-each x (y ∷ xs) (inr h) = omega (arith, above-each x xs h)

-- a function that maps a list to itself leaves its elements
fixes : (f : ℕ → ℕ) (xs : List ℕ) → xs ≡ map f xs → (y : ℕ) → In y xs → y ≡ f y
fixes f [] e y h = absurd h
fixes f (x ∷ xs) e y (inl p) = let q : x ≡ f x = cc in p ∙ (q ∙ ap f (sym p))
fixes f (x ∷ xs) e y (inr h) = let q : xs ≡ map f xs = cc in fixes f xs q y h

-- answers made of others

map-is_some : {A B : Type 0} (f : A → B) (o : Option A) → IsSome (option_map f o) → IsSome o
map-is_some f None s = s
map-is_some f (Some a) s = s

then-is_some : {A B : Type 0} (f : A → Option B) (o : Option A) → IsSome (option_and_then f o) → IsSome o
then-is_some f None s = s
then-is_some f (Some a) s = refl

both-left : {A B C : Type 0} (f : A → B → C) (o : Option A) (q : Option B) → IsSome (both f o q) → IsSome o
both-left f None q s = s
both-left f (Some a) q s = refl

both-right : {A B C : Type 0} (f : A → B → C) (o : Option A) (q : Option B) → IsSome (both f o q) → IsSome q
both-right f None q s = absurd (false≢true s)
both-right f (Some a) None s = s
both-right f (Some a) (Some b) s = s

-- an answer has names of what was looked up alone
pub look-names : (look : DTerm → Option Applied) → Renames look → (d : DTerm) (a : Applied) → look d ≡ Some a → (y : ℕ) → In y (values a.1) → In y (free_names d.args)
look-names look law d a is y h = elim (decide y (free_names d.args)) [
  | inl there ↦ there
  | inr away ↦
      let z : ℕ = suc (y + above (free_names d.args)) in
      let f : ℕ → ℕ = swapped y z in
      let stays : moved f d ≡ d =
      moved-agrees f (λ x. x) d (λ x j. swapped-other y z x (λ e. away (subst (λ w. In w (free_names d.args)) e j)) (λ e. omega (arith, e, above-each x (free_names d.args) j))) ∙ moved-id d in
      let same : a ≡ renamed_id f a = Some-same a (renamed_id f a) (sym is ∙ (ap look (sym stays) ∙ (law f (λ u v p. to-injective (swap y z) u v p) d ∙ ap (option_map (renamed_id f)) is))) in
      let fixed : y ≡ f y = fixes f (values a.1) (ap (λ (b : Applied). values b.1) same ∙ values-with_values f a.1) y h in
      absurd (omega (arith, fixed, swapped-first y z y refl))
]

module _ (look : DTerm → Option Applied) (law : Renames look) where
  abbrev HasAnswer : Term → Type 0
  HasAnswer u = IsSome (look_up look (nameless u))

  -- under binders a part is renamed, and so is its answer
  under : (ρ : ℕ → ℕ) → IsInjective ρ → (u : Term) → look_up look (nameless_by ρ u) ≡ option_map (renamed_id ρ) (look_up look (nameless u))
  under ρ inj u = ap (look_up look) (sym (moved-nameless ρ u)) ∙ look_up-moved look law ρ inj (nameless u)

  unbound : (ρ : ℕ → ℕ) → IsInjective ρ → (u : Term) → IsSome (look_up look (nameless_by ρ u)) → HasAnswer u
  unbound ρ inj u s = map-is_some (renamed_id ρ) (look_up look (nameless u)) (subst (λ (o : Option Applied). IsSome o) (under ρ inj u) s)

  -- where a tree has an answer, each of its parts has one
  parts_found : (ρ : ℕ → ℕ) → IsInjective ρ → (t : Tree) (xs : List ℕ) (us : List Term) → length us ≡ length (children t) → IsSome (look_up_args look (nameless_args ρ (filled t xs us))) → Each HasAnswer us
  parts_found ρ inj leaf xs [] n s = tt
  parts_found ρ inj leaf xs (u ∷ us) n s = absurd (omega (arith, n))
  parts_found ρ inj (own r) xs us n s = parts_found ρ inj r (drop 1 xs) us n (map-is_some _ (look_up_args look (nameless_args ρ (filled r (drop 1 xs) us))) s)
  parts_found ρ inj (child i ks r) xs [] n s = tt
  parts_found ρ inj (child i ks r) xs (u ∷ us) n s =
      let rest = look_up_args look (nameless_args ρ (filled r (drop (length ks) xs) us)) in
      (unbound ρ inj u (both-left _ (look_up look (nameless_by ρ u)) rest s), parts_found ρ inj r (drop (length ks) xs) us (omega (arith, n)) (both-right _ (look_up look (nameless_by ρ u)) rest s))
  parts_found ρ inj (bind u r) xs us n s =
      let m = length (scopes u) in
      let c = length (children u) in
      let ρ' = extend (slice_index xs 0) ρ in
      let inner = look_up_args look (nameless_args ρ' (filled u (take m (drop 1 xs)) (take c us))) in
      let rest = look_up_args look (nameless_args ρ (filled r (drop m (drop 1 xs)) (drop c us))) in
      let l : length (take c us) ≡ c = cut us c (omega (arith, n, length-append (children u) (children r))) in
      let k : length (drop c us) ≡ length (children r) = omega (arith, n, l, length-append (children u) (children r), length-parts c us) in
      Each-parts HasAnswer c us
      (parts_found ρ' (extend-injective (slice_index xs 0) ρ inj) u (take m (drop 1 xs)) (take c us) l (both-left _ inner rest s))
      (parts_found ρ inj r (drop m (drop 1 xs)) (drop c us) k (both-right _ inner rest s))
    where
      cut : (vs : List Term) (c : ℕ) → c ≤ length vs → length (take c vs) ≡ c
      cut vs zero l = refl
      cut [] (suc c) l = absurd (omega arith)
      cut (v ∷ vs) (suc c) l = ap suc (cut vs c (omega arith))

  -- each child of a term that has an answer
  pub children_found : (f : Form) (us : List Term) → length us ≡ length (children f.tree) → HasAnswer (form.term_of f us) → Each HasAnswer us
  children_found f us n s = parts_found (λ x. x) (λ x y e. e) f.tree f.names us n (then-is_some _ (look_up_args look (nameless_args (λ x. x) (filled f.tree f.names us))) s)

  -- the ids are what the terms are looked up as, in turn
  abbrev pub Looked : List Applied → List Term → Type 0
  Looked [] [] = Unit {0}
  Looked [] (u ∷ us) = ⊥
  Looked (a ∷ ids) [] = ⊥
  Looked (a ∷ ids) (u ∷ us) = (look_up look (nameless u) ≡ Some a) × Looked ids us

  looked-split : (ids more : List Applied) (us : List Term) (n : ℕ) → length ids ≡ n → Looked (ids ++ more) us → Looked ids (take n us) × Looked more (drop n us)
  looked-split [] more us zero e m = (tt, m)
  looked-split [] more us (suc n) e m = absurd (omega (arith, e))
  looked-split (a ∷ ids) more us zero e m = absurd (omega (arith, e))
  looked-split (a ∷ ids) more [] (suc n) e m = absurd m
  looked-split (a ∷ ids) more (u ∷ us) (suc n) e m = let r = looked-split ids more us n (omega (arith, e)) m.1 in ((m.0, r.0), r.1)

  -- so the parts of the node over the terms are looked up as the node over the ids
  pub looked-args : (ρ : ℕ → ℕ) → IsInjective ρ → (t : Tree) (xs : List ℕ) (us : List Term) → length xs ≡ length (scopes t) → Looked (ids_in t xs) us →
      look_up_args look (nameless_args ρ (filled t xs us)) ≡ Some (nameless_args ρ (node_args t xs))
  looked-args ρ inj leaf xs [] n m = refl
  looked-args ρ inj leaf xs (u ∷ us) n m = absurd m
  looked-args ρ inj (own r) xs us n m = ap (option_map (place (ρ (slice_index xs 0)))) (looked-args ρ inj r (drop 1 xs) us (own_fits r xs n) m)
  looked-args ρ inj (child i ks r) xs [] n m = absurd m
  looked-args ρ inj (child i ks r) xs (u ∷ us) n m =
      let vs : List ℕ = take (length ks) xs in
      let a : Applied = (i, zip ks vs) in
      let answer : look_up look (nameless_by ρ u) ≡ Some (renamed_id ρ a) = under ρ inj u ∙ ap (option_map (renamed_id ρ)) m.0 in
      let rest = looked-args ρ inj r (drop (length ks) xs) us (child_rest_fits i ks r xs n) m.1 in
      let atom : as_term (renamed_id ρ a) ≡ node 0 ((i ∷ ks) ∷ []) (nameless_args ρ (own_names vs)) = sym (atom-is ρ i ks vs (child_keys_fit i ks r xs n)) in
      (λ j. both (λ b found. child_before (as_term b) found) (answer j) (rest j))
      ∙ ap (λ (b : DTerm). Some (child_before b (nameless_args ρ (node_args r (drop (length ks) xs))))) atom
  looked-args ρ inj (bind u r) xs us n m =
      let s = length (scopes u) in
      let c = length (children u) in
      let q = looked-split (ids_in u (take s (drop 1 xs))) (ids_in r (drop s (drop 1 xs))) us c (length-ids u (take s (drop 1 xs))) m in
      λ j. both scope (looked-args (extend (slice_index xs 0) ρ) (extend-injective (slice_index xs 0) ρ inj) u (take s (drop 1 xs)) (take c us) (bind_inner_fits u r xs n) q.0 j)
      (looked-args ρ inj r (drop s (drop 1 xs)) (drop c us) (bind_rest_fits u r xs n) q.1 j)

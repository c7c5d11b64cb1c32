-- Other names for numbers: where a binder's new name meets another one only if the old names met, nothing is captured.
use Rattle.std.proofs.Common.{◌≡◌, ◌≢◌, ℕ, suc, ◌<◌, List, [], ◌∷◌, length, take, drop, sym, ◌∙◌, ap, refl, inl, inr, arith, map, slice_index}
use Rattle.std.proofs.lemmas.Bool.{cases_eq}
use Rattle.std.proofs.Math.Nat.{suc-ne-zero, suc_inj}
use Rattle.slotted_lists.proofs.Members.{In, In-left, In-right}
use Rattle.slotted_lists.proofs.Lists.{drop-map, take-map}
use Rattle.slotted_theory.specs.Term.{Args, done, name, child, bind}
use Rattle.slotted_theory.specs.Nameless.{DArgs, stop, place, sub, scope, extend, nameless_args, moved_args, moved}
use Rattle.slotted_theory.specs.Renaming.{renamed_args}
use Rattle.slotted_theory.proofs.Names.{extend-same, extend-other}
use Rattle.slotted_slots.specs.Table.{numeric_slot}
use Rattle.slotted_nodes.specs.Form.{Form, Tree, leaf, own, scopes}
use Rattle.slotted_nodes.specs.Form.{child as id, bind as binder}
use Rattle.slotted_languages.specs.NodeTerm.{own_names, node_args, nameless_node}
use Rattle.slotted_languages.specs.Shape.{Numbers, number_at, past_binder, numbered, no_numbers, names_in, with_names, shape, Fits}
use Rattle.slotted_languages.proofs.Numbered.{Knows, IsFreeOf, Taken, Open, Later, Later-same, Later-then, Later-number, Later-binder, Later-numbered, Open-later, Open-binder, named, numbered-to, numbered-back}
use Rattle.slotted_languages.proofs.NodeTerms.{own_fits, child_rest_fits, bind_inner_fits, bind_rest_fits, length-numbers, node_args-numbers}

-- what the names of numbers mean under binders of such names
abbrev pub stack : (ℕ → ℕ) → List ℕ → ℕ → ℕ
stack σ [] = λ x. x
stack σ (n ∷ ns) = extend (σ n) (stack σ ns)

-- what holds of all names, and of all binders
abbrev pub AllNames : (ℕ → Type 0) → Args → Type 0
AllNames P done = Unit {0}
AllNames P (name x rest) = P x × AllNames P rest
AllNames P (child op payloads args rest) = AllNames P args × AllNames P rest
AllNames P (bind x inner rest) = P x × AllNames P inner × AllNames P rest

abbrev pub AllBinders : (ℕ → Type 0) → Args → Type 0
AllBinders B done = Unit {0}
AllBinders B (name x rest) = AllBinders B rest
AllBinders B (child op payloads args rest) = AllBinders B args × AllBinders B rest
AllBinders B (bind x inner rest) = B x × AllBinders B inner × AllBinders B rest

abbrev All' : (ℕ → Type 0) → List ℕ → Type 0
All' B [] = Unit {0}
All' B (n ∷ ns) = B n × All' B ns

place_parts : (x y : ℕ) (r s : DArgs) → place x r ≡ place y s → (x ≡ y) × (r ≡ s)
place_parts x y r s e = (cc, cc)

sub_parts : (op oq : ℕ) (p q : List (List ℕ)) (a b r s : DArgs) → sub op p a r ≡ sub oq q b s → (a ≡ b) × (r ≡ s)
sub_parts op oq p q a b r s e = (cc, cc)

scope_parts : (a b r s : DArgs) → scope a r ≡ scope b s → (a ≡ b) × (r ≡ s)
scope_parts a b r s e = (cc, cc)

module _ (old new : ℕ → ℕ) (P B : ℕ → Type 0) (meet : (b n : ℕ) → B b → P n → new b ≡ new n → old b ≡ old n) where
  -- a name that means its number still means it
  means : (ns : List ℕ) (n : ℕ) → All' B ns → P n → stack old ns (old n) ≡ named old ns n → stack new ns (new n) ≡ named new ns n
  means [] n h p e = refl
  means (b ∷ ns) n h p e = elim (cases_eq n b) [
    | inl d ↦ extend-same (new b) (stack new ns) (new n) (ap new d) ∙ sym (extend-same b (named new ns) n d)
    | inr d ↦
        let apart : old n ≢ old b = λ q. suc-ne-zero (named old ns n) (sym (extend-other b (named old ns) n d) ∙ (sym e ∙ extend-same (old b) (stack old ns) (old n) q)) in
        let e' : stack old ns (old n) ≡ named old ns n = suc_inj (sym (extend-other (old b) (stack old ns) (old n) apart) ∙ (e ∙ extend-other b (named old ns) n d)) in
        extend-other (new b) (stack new ns) (new n) (λ q. apart (sym (meet b n h.0 p (sym q))))
        ∙ (ap suc (means ns n h.1 p e') ∙ sym (extend-other b (named new ns) n d))
  ]

  pub renamed-means : (s : Args) (ns : List ℕ) → All' B ns → AllNames P s → AllBinders B s → nameless_args (stack old ns) (renamed_args old s) ≡ nameless_args (named old ns) s → nameless_args (stack new ns) (renamed_args new s) ≡ nameless_args (named new ns) s
  renamed-means done ns h p q e = refl
  renamed-means (name x rest) ns h p q e =
      let d = place_parts _ _ _ _ e in
      λ i. place (means ns x h p.0 d.0 i) (renamed-means rest ns h p.1 q d.1 i)
  renamed-means (child op payloads args rest) ns h p q e =
      let d = sub_parts _ _ _ _ _ _ _ _ e in
      λ i. sub op payloads (renamed-means args ns h p.0 q.0 d.0 i) (renamed-means rest ns h p.1 q.1 d.1 i)
  renamed-means (bind x inner rest) ns h p q e =
      let d = scope_parts _ _ _ _ e in
      λ i. scope (renamed-means inner (x ∷ ns) (q.0, h) p.1 q.1 d.0 i) (renamed-means rest ns h p.2 q.2 d.1 i)

-- the numbers of binders are taken
pub binders_taken : (ns : List ℕ) (k l : Numbers) (d : DArgs) → Open ns k → Later (numbered ns k d).1 l → AllBinders (λ n. Taken n l) (numbered ns k d).0
binders_taken ns k l stop o h = tt
binders_taken ns k l (place x rest) o h =
    let s = (number_at ns k x).1 in
    binders_taken ns s l rest (Open-later ns k s (Later-number ns k x) o) h
binders_taken ns k l (sub op payloads args rest) o h =
    let s = (numbered ns k args).1 in
    (binders_taken ns k l args o (Later-then _ _ _ (Later-numbered ns s rest) h), binders_taken ns s l rest (Open-later ns k s (Later-numbered ns k args) o) h)
binders_taken ns k l (scope inner rest) o h =
    let n = numeric_slot k.next in
    let s = (numbered (n ∷ ns) (past_binder k) inner).1 in
    let t : Later (past_binder k) s = Later-numbered (n ∷ ns) (past_binder k) inner in
    let u : Later s l = Later-then _ _ _ (Later-numbered ns s rest) h in
    let open_inner : Open (n ∷ ns) (past_binder k) = Open-binder ns k o in (
      u.taken n (t.taken n open_inner.0),
      binders_taken (n ∷ ns) (past_binder k) l inner open_inner u,
      binders_taken ns s l rest (Open-later ns k s (Later-then _ _ _ (Later-binder k) t) o) h,
    )

-- names put at the places of a tree, one by one
map_first : (σ : ℕ → ℕ) (xs : List ℕ) → 0 < length xs → slice_index (map σ xs) 0 ≡ σ (slice_index xs 0)
map_first σ [] h = absurd (omega (arith, h))
map_first σ (x ∷ xs) h = refl

pub own_names-map : (σ : ℕ → ℕ) (xs : List ℕ) → own_names (map σ xs) ≡ renamed_args σ (own_names xs)
own_names-map σ [] = refl
own_names-map σ (x ∷ xs) = ap (name (σ x)) (own_names-map σ xs)

pub node_args-map : (σ : ℕ → ℕ) (t : Tree) (xs : List ℕ) → length xs ≡ length (scopes t) → node_args t (map σ xs) ≡ renamed_args σ (node_args t xs)
node_args-map σ leaf xs h = refl
node_args-map σ (own r) xs h =
    λ i. name (map_first σ xs (omega (arith, h)) i) ((ap (node_args r) (drop-map σ 1 xs) ∙ node_args-map σ r (drop 1 xs) (own_fits r xs h)) i)
node_args-map σ (id c ks r) xs h =
    λ i. child 0 ((c ∷ ks) ∷ []) ((ap own_names (take-map σ (length ks) xs) ∙ own_names-map σ (take (length ks) xs)) i)
    ((ap (node_args r) (drop-map σ (length ks) xs) ∙ node_args-map σ r (drop (length ks) xs) (child_rest_fits c ks r xs h)) i)
node_args-map σ (binder u r) xs h =
    let n = length (scopes u) in
    λ i. bind (map_first σ xs (omega (arith, h)) i)
    ((ap (λ ys. node_args u (take n ys)) (drop-map σ 1 xs) ∙ (ap (node_args u) (take-map σ n (drop 1 xs)) ∙ node_args-map σ u (take n (drop 1 xs)) (bind_inner_fits u r xs h))) i)
    ((ap (λ ys. node_args r (drop n ys)) (drop-map σ 1 xs) ∙ (ap (node_args r) (drop-map σ n (drop 1 xs)) ∙ node_args-map σ r (drop n (drop 1 xs)) (bind_rest_fits u r xs h))) i)

names_from : (P : ℕ → Type 0) (s : Args) → ((n : ℕ) → In n (names_in s) → P n) → AllNames P s
names_from P done h = tt
names_from P (name x rest) h = (h x (inl refl), names_from P rest (λ n l. h n (inr l)))
names_from P (child op payloads args rest) h =
    (names_from P args (λ n l. h n (In-left n (names_in args) (names_in rest) l)), names_from P rest (λ n l. h n (In-right n (names_in args) (names_in rest) l)))
names_from P (bind x inner rest) h = (
  h x (inl refl),
  names_from P inner (λ n l. h n (inr (In-left n (names_in inner) (names_in rest) l))),
  names_from P rest (λ n l. h n (inr (In-right n (names_in inner) (names_in rest) l))),
)

both_of : (P B C : ℕ → Type 0) (s : Args) → ((n : ℕ) → P n → B n → C n) → AllNames P s → AllBinders B s → AllBinders C s
both_of P B C done f p b = tt
both_of P B C (name x rest) f p b = both_of P B C rest f p.1 b
both_of P B C (child op payloads args rest) f p b = (both_of P B C args f p.0 b.0, both_of P B C rest f p.1 b.1)
both_of P B C (bind x inner rest) f p b = (f x p.0 b.0, both_of P B C inner f p.1 b.1, both_of P B C rest f p.2 b.2)

-- new names for the numbers of a node, of which a binder's meets another only if the old ones met
pub record IsApart (f : Form) (old new : ℕ → ℕ) : Type 0 where
  pub were : map old (shape f).0.names ≡ f.names
  pub free : Knows old (λ x. x) (shape f).1
  pub meet : (b n : ℕ) → IsFreeOf b (shape f).1 → In b (shape f).0.names → In n (shape f).0.names → new b ≡ new n → old b ≡ old n

-- such new names rename the node, where they are for each free name what π gives it
pub renamed_node : (f : Form) (old new π : ℕ → ℕ) → Fits f → IsApart f old new → Knows new π (shape f).1 → nameless_node (with_names f (map new (shape f).0.names)) ≡ moved π (nameless_node f)
renamed_node f old new π h a k =
    let d = (nameless_node f).args in
    let r = numbered [] no_numbers d in
    let s = r.0 in
    let ns = names_in s in
    let fits : length ns ≡ length (scopes f.tree) = length-numbers [] no_numbers (λ x. x) f.tree f.names h in
    let back : node_args f.tree ns ≡ s = node_args-numbers [] no_numbers (λ x. x) f.tree f.names h in
    let put : (σ : ℕ → ℕ) → node_args f.tree (map σ ns) ≡ renamed_args σ s = λ σ. node_args-map σ f.tree ns fits ∙ ap (renamed_args σ) back in
    let e : nameless_args (λ x. x) (renamed_args old s) ≡ nameless_args old s =
    sym (ap (nameless_args (λ x. x)) (put old)) ∙ (ap (λ xs. nameless_args (λ x. x) (node_args f.tree xs)) a.were ∙ sym (numbered-back old d a.free)) in
    let names : AllNames (λ n. In n ns) s = names_from (λ n. In n ns) s (λ n l. l) in
    let taken : AllBinders (λ n. Taken n r.1) s = binders_taken [] no_numbers r.1 d tt (Later-same r.1) in
    let binders : AllBinders (λ n. IsFreeOf n r.1.free × In n ns) s = both_of (λ n. In n ns) (λ n. Taken n r.1) (λ n. IsFreeOf n r.1.free × In n ns) s (λ n p t. (t.other, p)) names taken in
    let q : nameless_args (λ x. x) (renamed_args new s) ≡ nameless_args new s =
    renamed-means old new (λ n. In n ns) (λ n. IsFreeOf n r.1.free × In n ns) (λ b n x y z. a.meet b n x.0 x.1 y z) s [] tt names binders e in
    let p : nameless_args (λ x. x) (node_args f.tree (map new ns)) ≡ moved_args π d = ap (nameless_args (λ x. x)) (put new) ∙ (q ∙ numbered-to new π [] no_numbers d tt k) in
    λ i. record { op = suc f.operator; payloads = f.payloads; args = p i }

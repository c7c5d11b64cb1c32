-- Nodes over applied ids: what they stand for, their names, and how they move.
use Rattle.std.proofs.Common.{◌≡◌, ℕ, List, [], ◌∷◌, ◌++◌, sym, ◌∙◌, ap, refl, subst, inl, inr}
use Rattle.std.specs.Prelude.{map}
use Rattle.std.specs.List.{zip}
use Rattle.slotted_lists.proofs.Members.{In, In-left, In-right, In-append, In-map, In-of_map}
use Rattle.slotted_lists.proofs.Maps.{keys-with_values, values-with_values}
use Rattle.slotted_theory.specs.Nameless.{DArgs, DTerm, stop, place, sub, scope, lift, moved, moved_args}
use Rattle.slotted_theory.specs.Renaming.{IsInjective}
use Rattle.slotted_theory.specs.FiniteMaps.{filled, with_values}
use Rattle.slotted_theory.specs.Shape.{outside, free_names}
use Rattle.slotted_theory.proofs.Names.{lift-injective}
use Rattle.slotted_theory.proofs.Values.{node, child_before, expand_args, expand}
use Rattle.slotted_model.specs.Ascending.{IsAscending}
use Rattle.slotted_model.specs.Applied.{Applied, keys, values, renamed_id, in_places, own_names, as_term, IsApplied, EachChild}
use Rattle.slotted_model.specs.Classes.{term_at, term_by, stands, layer}
use Rattle.slotted_model.proofs.Data.Members.{In-outside, In-inside}
use Rattle.slotted_model.proofs.Data.Sets.{SameMembers}
use Rattle.slotted_model.proofs.Data.Theory.{moved-agrees, moved-moved, free_names-moved}
use Rattle.slotted_model.proofs.Data.Maps.{filled-with_values, values-map_on, map_on-filled}

pub zip-places : (m : List (ℕ × ℕ)) → zip (keys m) (own_names (in_places (values m))) ≡ m
zip-places [] = refl
zip-places (p ∷ m) = ap (λ l. p ∷ l) (zip-places m)

expand_args-places : (s : DTerm → DTerm) (xs : List ℕ) → expand_args s (in_places xs) ≡ in_places xs
expand_args-places s [] = refl
expand_args-places s (x ∷ xs) = ap (place x) (expand_args-places s xs)

moved_args-places : (f : ℕ → ℕ) (xs : List ℕ) → moved_args f (in_places xs) ≡ in_places (map f xs)
moved_args-places f [] = refl
moved_args-places f (x ∷ xs) = ap (place (f x)) (moved_args-places f xs)

pub free_names-places : (xs : List ℕ) → free_names (in_places xs) ≡ xs
free_names-places [] = refl
free_names-places (x ∷ xs) = ap (λ l. x ∷ l) (free_names-places xs)

pub moved-as_term : (f : ℕ → ℕ) (a : Applied) → moved f (as_term a) ≡ as_term (renamed_id f a)
moved-as_term f a =
    let e : moved_args f (in_places (values a.1)) ≡ in_places (values (with_values f a.1)) = moved_args-places f (values a.1) ∙ ap in_places (sym (values-with_values f a.1)) in
    λ i. node 0 ((a.0 ∷ sym (keys-with_values f a.1) i) ∷ []) (e i)

-- an applied id as a child stands for its term
pub expand-as_term : (ts : List DTerm) (a : Applied) → expand (stands ts) (as_term a) ≡ term_by ts a
expand-as_term ts a =
    ap (λ args. term_by ts (a.0, zip (keys a.1) (own_names args))) (expand_args-places (stands ts) (values a.1))
    ∙ ap (λ m. term_by ts (a.0, m)) (zip-places a.1)

pub expand-child : (ts : List DTerm) (P : Applied → Type 0) (d : DTerm) (c : IsApplied P d) → expand (stands ts) d ≡ term_by ts c.0
expand-child ts P d c = ap (expand (stands ts)) c.1 ∙ expand-as_term ts c.0

pub EachChild-map : (P Q : Applied → Type 0) → ((a : Applied) → P a → Q a) → (d : DArgs) → EachChild P d → EachChild Q d
EachChild-map P Q f stop c = tt
EachChild-map P Q f (place x rest) c = EachChild-map P Q f rest c
EachChild-map P Q f (sub op payloads args rest) c = ((c.0.0, c.0.1, f c.0.0 c.0.2), EachChild-map P Q f rest c.1)
EachChild-map P Q f (scope inner rest) c = (EachChild-map P Q f inner c.0, EachChild-map P Q f rest c.1)

-- what every injective renaming keeps of an id, it keeps of each child
pub EachChild-moved : (P : Applied → Type 0) → ((f : ℕ → ℕ) → IsInjective f → (a : Applied) → P a → P (renamed_id f a)) → (f : ℕ → ℕ) → IsInjective f → (d : DArgs) → EachChild P d → EachChild P (moved_args f d)
EachChild-moved P keep f inj stop c = tt
EachChild-moved P keep f inj (place x rest) c = EachChild-moved P keep f inj rest c
EachChild-moved P keep f inj (sub op payloads args rest) c =
    ((renamed_id f c.0.0, ap (moved f) c.0.1 ∙ moved-as_term f c.0.0, keep f inj c.0.0 c.0.2), EachChild-moved P keep f inj rest c.1)
EachChild-moved P keep f inj (scope inner rest) c =
    (EachChild-moved P keep (lift f) (lift-injective f inj) inner c.0, EachChild-moved P keep f inj rest c.1)

-- a node stands for the same over terms that its children have in common
pub expand-agrees : (ts us : List DTerm) (d : DArgs) → EachChild (λ a. term_by ts a ≡ term_by us a) d → expand_args (stands ts) d ≡ expand_args (stands us) d
expand-agrees ts us stop c = refl
expand-agrees ts us (place x rest) c = ap (place x) (expand-agrees ts us rest c)
expand-agrees ts us (sub op payloads args rest) c =
    let e : expand (stands ts) (node op payloads args) ≡ expand (stands us) (node op payloads args) =
    expand-child ts _ (node op payloads args) c.0 ∙ (c.0.2 ∙ sym (expand-child us _ (node op payloads args) c.0)) in
    λ i. child_before (e i) (expand-agrees ts us rest c.1 i)
expand-agrees ts us (scope inner rest) c = λ i. scope (expand-agrees ts us inner c.0 i) (expand-agrees ts us rest c.1 i)

pub layer-agrees : (ts us : List DTerm) (d : DTerm) → EachChild (λ a. term_by ts a ≡ term_by us a) d.args → layer ts d ≡ layer us d
layer-agrees ts us d c = ap (node d.op d.payloads) (expand-agrees ts us d.args c)

-- the keys are the free names of the class's term
abbrev pub KeysAreNames : List DTerm → Applied → Type 0
KeysAreNames ts a = SameMembers (free_names (term_at ts a.0).args) (keys a.1)

pub term_by-renamed : (ts : List DTerm) (f : ℕ → ℕ) (a : Applied) → KeysAreNames ts a → term_by ts (renamed_id f a) ≡ moved f (term_by ts a)
term_by-renamed ts f a k =
    moved-agrees (filled (with_values f a.1)) (λ x. f (filled a.1 x)) (term_at ts a.0) (λ x h. filled-with_values f a.1 x ((k x).0 h))
    ∙ sym (moved-moved f (filled a.1) (term_at ts a.0))

-- moving a node's names moves what it stands for
pub expand-moved : (ts : List DTerm) (f : ℕ → ℕ) (d : DArgs) → EachChild (KeysAreNames ts) d → expand_args (stands ts) (moved_args f d) ≡ moved_args f (expand_args (stands ts) d)
expand-moved ts f stop c = refl
expand-moved ts f (place x rest) c = ap (place (f x)) (expand-moved ts f rest c)
expand-moved ts f (sub op payloads args rest) c =
    let d : DTerm = node op payloads args in
    let e : expand (stands ts) (moved f d) ≡ moved f (expand (stands ts) d) =
    ap (λ t. expand (stands ts) (moved f t)) c.0.1 ∙ (ap (expand (stands ts)) (moved-as_term f c.0.0)
    ∙ (expand-as_term ts (renamed_id f c.0.0) ∙ (term_by-renamed ts f c.0.0 c.0.2 ∙ ap (moved f) (sym (expand-child ts _ d c.0))))) in
    λ i. child_before (e i) (expand-moved ts f rest c.1 i)
expand-moved ts f (scope inner rest) c = λ i. scope (expand-moved ts (lift f) inner c.0 i) (expand-moved ts f rest c.1 i)

pub layer-moved : (ts : List DTerm) (f : ℕ → ℕ) (d : DTerm) → EachChild (KeysAreNames ts) d.args → layer ts (moved f d) ≡ moved f (layer ts d)
layer-moved ts f d c = ap (node d.op d.payloads) (expand-moved ts f d.args c)

values-filled : (m : List (ℕ × ℕ)) → IsAscending (keys m) → values m ≡ map (filled m) (keys m)
values-filled m a = sym (ap values (map_on-filled m a)) ∙ values-map_on (filled m) (keys m)

-- the free names of an applied id's term are its values
pub names-term_by : (ts : List DTerm) (a : Applied) → KeysAreNames ts a → IsAscending (keys a.1) → SameMembers (free_names (term_by ts a).args) (values a.1)
names-term_by ts a k asc z =
    let free : List ℕ = free_names (term_at ts a.0).args in
    let moved_names : free_names (term_by ts a).args ≡ map (filled a.1) free = free_names-moved (filled a.1) (term_at ts a.0).args in
    let named : values a.1 ≡ map (filled a.1) (keys a.1) = values-filled a.1 asc in (
      λ h.
          let r : (x : ℕ) × In x free × (z ≡ filled a.1 x) = In-of_map (filled a.1) free z (subst (In z) moved_names h) in
          subst (In z) (sym named) (subst (λ y. In y (map (filled a.1) (keys a.1))) (sym r.2) (In-map (filled a.1) (keys a.1) r.0 ((k r.0).0 r.1))),
      λ h.
          let r : (x : ℕ) × In x (keys a.1) × (z ≡ filled a.1 x) = In-of_map (filled a.1) (keys a.1) z (subst (In z) named h) in
          subst (In z) (sym moved_names) (subst (λ y. In y (map (filled a.1) free)) (sym r.2) (In-map (filled a.1) free r.0 ((k r.0).1 r.1))),
    )

SameMembers-append : (xs us ys vs : List ℕ) → SameMembers xs us → SameMembers ys vs → SameMembers (xs ++ ys) (us ++ vs)
SameMembers-append xs us ys vs s t z = (
  λ h. elim (In-append z xs ys h) [
    | inl k ↦ In-left z us vs ((s z).0 k)
    | inr k ↦ In-right z us vs ((t z).0 k)
  ],
  λ h. elim (In-append z us vs h) [
    | inl k ↦ In-left z xs ys ((s z).1 k)
    | inr k ↦ In-right z xs ys ((t z).1 k)
  ],
)

SameMembers-outside : (xs us : List ℕ) → SameMembers xs us → SameMembers (outside xs) (outside us)
SameMembers-outside xs us s z = (λ h. In-outside z us ((s _).0 (In-inside z xs h)), λ h. In-outside z xs ((s _).1 (In-inside z us h)))

-- a node's free names are those of what it stands for
pub names-expand : (ts : List DTerm) (d : DArgs) → EachChild (λ a. KeysAreNames ts a × IsAscending (keys a.1)) d → SameMembers (free_names (expand_args (stands ts) d)) (free_names d)
names-expand ts stop c = λ z. (λ h. h, λ h. h)
names-expand ts (place x rest) c = λ z. (
  λ h. elim h [
    | inl e ↦ inl e
    | inr k ↦ inr ((names-expand ts rest c z).0 k)
  ],
  λ h. elim h [
    | inl e ↦ inl e
    | inr k ↦ inr ((names-expand ts rest c z).1 k)
  ],
)
names-expand ts (sub op payloads args rest) c =
    let d : DTerm = node op payloads args in
    let e : free_names args ≡ values c.0.0.1 = ap (λ (t : DTerm). free_names t.args) c.0.1 ∙ free_names-places (values c.0.0.1) in
    let s : SameMembers (free_names (term_by ts c.0.0).args) (values c.0.0.1) = names-term_by ts c.0.0 c.0.2.0 c.0.2.1 in
    let t : SameMembers (free_names (expand (stands ts) d).args) (free_names args) =
    λ z. (λ h. subst (In z) (sym e) ((s z).0 (subst (λ (u : DTerm). In z (free_names u.args)) (expand-child ts _ d c.0) h)), λ h. subst (λ (u : DTerm). In z (free_names u.args)) (sym (expand-child ts _ d c.0)) ((s z).1 (subst (In z) e h))) in
    SameMembers-append (free_names (expand (stands ts) d).args) (free_names args) (free_names (expand_args (stands ts) rest)) (free_names rest) t (names-expand ts rest c.1)
names-expand ts (scope inner rest) c =
    SameMembers-append (outside (free_names (expand_args (stands ts) inner))) (outside (free_names inner)) (free_names (expand_args (stands ts) rest)) (free_names rest)
    (SameMembers-outside (free_names (expand_args (stands ts) inner)) (free_names inner) (names-expand ts inner c.0))
    (names-expand ts rest c.1)

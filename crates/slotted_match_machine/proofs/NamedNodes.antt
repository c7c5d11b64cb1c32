-- A node with other names: f on all that are written, those of binders too.
use Rattle.std.proofs.Common.{◌≡◌, ℕ, suc, List, [], ◌∷◌, ◌++◌, map, sym, ◌∙◌, ap, refl, subst, inl, inr}
use Rattle.std.specs.Prelude.{◌⊎◌}
use Rattle.std.proofs.lemmas.Bool.{cases_eq}
use Rattle.std.proofs.lemmas.List.{map-append}
use Rattle.std.proofs.Math.Nat.{suc-ne-zero, suc_inj}
use Rattle.slotted_lists.proofs.Members.{In, In-left, In-right, In-append, In-map, In-of_map, In-Contains, Contains-In}
use Rattle.slotted_lists.proofs.Maps.{values-with_values}
use Rattle.slotted_theory.specs.Nameless.{extend, lift, scope, place, moved, moved_args}
use Rattle.slotted_theory.specs.Shape.{outside, free_names}
use Rattle.slotted_theory.proofs.Names.{extend-same, extend-other}
use Rattle.slotted_theory.proofs.Values.{child_before}
use Rattle.slotted_model.specs.Applied.{Applied, values, renamed_id, as_term}
use Rattle.slotted_model.specs.Correspondence.{AllDifferent}
use Rattle.slotted_model.proofs.Represented.Children.{free_names-places, moved-as_term}
use Rattle.slotted_model.proofs.Data.Members.{In-outside, In-inside}
use Rattle.slotted_model_rules.specs.Matcher.{NodeArgs, no_more, a_name, an_id, a_binder, unnamed, written_names, bound_names}
use Rattle.slotted_model_rules.specs.Goals.{own_names}
use Rattle.slotted_model_rules.proofs.Matching.AllSlots.{renamed-agrees}
use Rattle.slotted_model_rules.proofs.Substitutions.Renamed.{renamed-twice}
use Rattle.slotted_match_machine.specs.Index.{ids_of}

abbrev pub node_with : (ℕ → ℕ) → NodeArgs → NodeArgs
node_with f no_more = no_more
node_with f (a_name x rest) = a_name (f x) (node_with f rest)
node_with f (an_id a rest) = an_id (renamed_id f a) (node_with f rest)
node_with f (a_binder x inner rest) = a_binder (f x) (node_with f inner) (node_with f rest)

-- its names, and its ids
pub written-with : (f : ℕ → ℕ) (n : NodeArgs) → written_names (node_with f n) ≡ map f (written_names n)
written-with f no_more = refl
written-with f (a_name x rest) = ap (λ l. f x ∷ l) (written-with f rest)
written-with f (an_id a rest) = (λ i. values-with_values f a.1 i ++ written-with f rest i) ∙ sym (map-append f (values a.1) (written_names rest))
written-with f (a_binder x inner rest) =
    ap (λ l. f x ∷ l) ((λ i. written-with f inner i ++ written-with f rest i) ∙ sym (map-append f (written_names inner) (written_names rest)))

pub bound-with : (f : ℕ → ℕ) (n : NodeArgs) → bound_names (node_with f n) ≡ map f (bound_names n)
bound-with f no_more = refl
bound-with f (a_name x rest) = bound-with f rest
bound-with f (an_id a rest) = bound-with f rest
bound-with f (a_binder x inner rest) = ap (λ l. f x ∷ l) ((λ i. bound-with f inner i ++ bound-with f rest i) ∙ sym (map-append f (bound_names inner) (bound_names rest)))

pub own-with : (f : ℕ → ℕ) (n : NodeArgs) → own_names (node_with f n) ≡ map f (own_names n)
own-with f no_more = refl
own-with f (a_name x rest) = ap (λ l. f x ∷ l) (own-with f rest)
own-with f (an_id a rest) = own-with f rest
own-with f (a_binder x inner rest) = ap (λ l. f x ∷ l) ((λ i. own-with f inner i ++ own-with f rest i) ∙ sym (map-append f (own_names inner) (own_names rest)))

pub ids-with : (f : ℕ → ℕ) (n : NodeArgs) → ids_of (node_with f n) ≡ map (renamed_id f) (ids_of n)
ids-with f no_more = refl
ids-with f (a_name x rest) = ids-with f rest
ids-with f (an_id a rest) = ap (λ l. renamed_id f a ∷ l) (ids-with f rest)
ids-with f (a_binder x inner rest) = (λ i. ids-with f inner i ++ ids-with f rest i) ∙ sym (map-append (renamed_id f) (ids_of inner) (ids_of rest))

-- without bound names it is the node with its free names moved, if f tells the names that are written apart: τ numbers the new names, and h moves the
-- numbers that ρ gives the old ones
pub unnamed-with : (f τ h ρ : ℕ → ℕ) (n : NodeArgs) → ((x y : ℕ) → In x (written_names n) → In y (written_names n) → f x ≡ f y → x ≡ y) →
    ((y : ℕ) → In y (written_names n) → τ (f y) ≡ h (ρ y)) → unnamed τ (node_with f n) ≡ moved_args h (unnamed ρ n)
unnamed-with f τ h ρ no_more inj agree = refl
unnamed-with f τ h ρ (a_name x rest) inj agree =
    λ i. place (agree x (inl refl) i) (unnamed-with f τ h ρ rest (λ y z j k. inj y z (inr j) (inr k)) (λ y j. agree y (inr j)) i)
unnamed-with f τ h ρ (an_id a rest) inj agree =
    let V : List ℕ = values a.1 in
    let W : List ℕ = written_names rest in
    let one : renamed_id τ (renamed_id f a) ≡ renamed_id h (renamed_id ρ a) =
    renamed-twice τ f a ∙ (renamed-agrees (λ y. τ (f y)) (λ y. h (ρ y)) a (λ y j. agree y (In-left y V W j)) ∙ sym (renamed-twice h ρ a)) in
    let e : as_term (renamed_id τ (renamed_id f a)) ≡ moved h (as_term (renamed_id ρ a)) = ap as_term one ∙ sym (moved-as_term h (renamed_id ρ a)) in
    λ i. child_before (e i) (unnamed-with f τ h ρ rest (λ y z j k. inj y z (In-right y V W j) (In-right z V W k)) (λ y j. agree y (In-right y V W j)) i)
unnamed-with f τ h ρ (a_binder x inner rest) inj agree =
    let V : List ℕ = written_names inner in
    let W : List ℕ = written_names rest in
    let left : (y : ℕ) → In y V → In y (x ∷ (V ++ W)) = λ y j. inr (In-left y V W j) in
    let right : (y : ℕ) → In y W → In y (x ∷ (V ++ W)) = λ y j. inr (In-right y V W j) in
    λ i. scope (unnamed-with f (extend (f x) τ) (lift h) (extend x ρ) inner (λ y z j k. inj y z (left y j) (left z k)) inside i)
    (unnamed-with f τ h ρ rest (λ y z j k. inj y z (right y j) (right z k)) (λ y j. agree y (right y j)) i)
  where
    inside : (y : ℕ) → In y (written_names inner) → extend (f x) τ (f y) ≡ lift h (extend x ρ y)
    inside y j =
        let there : In y (x ∷ (written_names inner ++ written_names rest)) = inr (In-left y (written_names inner) (written_names rest) j) in
        elim (cases_eq y x) [
          | inl e ↦ extend-same (f x) τ (f y) (ap f e) ∙ sym (ap (lift h) (extend-same x ρ y e))
          | inr n ↦ extend-other (f x) τ (f y) (λ q. n (inj y x there (inl refl) q)) ∙ (ap suc (agree y there) ∙ sym (ap (lift h) (extend-other x ρ y n)))
        ]

-- each name that is written is a binder's, or free
pub bound-or-free : (ρ : ℕ → ℕ) (n : NodeArgs) (z : ℕ) → In z (written_names n) → In z (bound_names n) ⊎ In (ρ z) (free_names (unnamed ρ n))
bound-or-free ρ no_more z j = absurd j
bound-or-free ρ (a_name x rest) z (inl e) = inr (inl (ap ρ e))
bound-or-free ρ (a_name x rest) z (inr j) = elim (bound-or-free ρ rest z j) [
  | inl k ↦ inl k
  | inr k ↦ inr (inr k)
]
bound-or-free ρ (an_id a rest) z j =
    let V : List ℕ = values a.1 in
    let F : List ℕ = free_names (as_term (renamed_id ρ a)).args in
    let own : F ≡ map ρ V = free_names-places (values (renamed_id ρ a).1) ∙ values-with_values ρ a.1 in
    elim (In-append z V (written_names rest) j) [
      | inl k ↦ inr (In-left (ρ z) F (free_names (unnamed ρ rest)) (subst (In (ρ z)) (sym own) (In-map ρ V z k)))
      | inr k ↦ elim (bound-or-free ρ rest z k) [
        | inl b ↦ inl b
        | inr b ↦ inr (In-right (ρ z) F (free_names (unnamed ρ rest)) b)
      ]
    ]
bound-or-free ρ (a_binder x inner rest) z (inl e) = inl (inl e)
bound-or-free ρ (a_binder x inner rest) z (inr j) =
    let B : List ℕ = bound_names inner in
    let C : List ℕ = bound_names rest in
    let F : List ℕ = free_names (unnamed (extend x ρ) inner) in
    let G : List ℕ = free_names (unnamed ρ rest) in
    elim (In-append z (written_names inner) (written_names rest) j) [
      | inl k ↦ elim (bound-or-free (extend x ρ) inner z k) [
        | inl b ↦ inl (inr (In-left z B C b))
        | inr b ↦ elim (cases_eq z x) [
          | inl same ↦ inl (inl same)
          | inr n ↦ inr (In-left (ρ z) (outside F) G (In-outside (ρ z) F (subst (λ y. In y F) (extend-other x ρ z n) b)))
        ]
      ]
      | inr k ↦ elim (bound-or-free ρ rest z k) [
        | inl b ↦ inl (inr (In-right z B C b))
        | inr b ↦ inr (In-right (ρ z) (outside F) G b)
      ]
    ]

-- and each free name is written
pub free-written : (ρ : ℕ → ℕ) (n : NodeArgs) (y : ℕ) → In y (free_names (unnamed ρ n)) → (z : ℕ) × In z (written_names n) × (y ≡ ρ z)
free-written ρ no_more y j = absurd j
free-written ρ (a_name x rest) y (inl e) = (x, inl refl, e)
free-written ρ (a_name x rest) y (inr j) = let r = free-written ρ rest y j in (r.0, inr r.1, r.2)
free-written ρ (an_id a rest) y j =
    let V : List ℕ = values a.1 in
    let F : List ℕ = free_names (as_term (renamed_id ρ a)).args in
    let own : F ≡ map ρ V = free_names-places (values (renamed_id ρ a).1) ∙ values-with_values ρ a.1 in
    elim (In-append y F (free_names (unnamed ρ rest)) j) [
      | inl k ↦ let r = In-of_map ρ V y (subst (In y) own k) in (r.0, In-left r.0 V (written_names rest) r.1, r.2)
      | inr k ↦ let r = free-written ρ rest y k in (r.0, In-right r.0 V (written_names rest) r.1, r.2)
    ]
free-written ρ (a_binder x inner rest) y j =
    let F : List ℕ = free_names (unnamed (extend x ρ) inner) in
    elim (In-append y (outside F) (free_names (unnamed ρ rest)) j) [
      | inl k ↦
          let r : (z : ℕ) × In z (written_names inner) × (suc y ≡ extend x ρ z) = free-written (extend x ρ) inner (suc y) (In-inside y F k) in
          elim (cases_eq r.0 x) [
            | inl e ↦ absurd (suc-ne-zero y (r.2 ∙ extend-same x ρ r.0 e))
            | inr n ↦ (r.0, inr (In-left r.0 (written_names inner) (written_names rest) r.1), suc_inj (r.2 ∙ extend-other x ρ r.0 n))
          ]
      | inr k ↦ let r = free-written ρ rest y k in (r.0, inr (In-right r.0 (written_names inner) (written_names rest) r.1), r.2)
    ]

-- binders stand among the written names, and own names too
pub bound-written : (n : NodeArgs) (z : ℕ) → In z (bound_names n) → In z (written_names n)
bound-written no_more z j = j
bound-written (a_name x rest) z j = inr (bound-written rest z j)
bound-written (an_id a rest) z j = In-right z (values a.1) (written_names rest) (bound-written rest z j)
bound-written (a_binder x inner rest) z (inl e) = inl e
bound-written (a_binder x inner rest) z (inr j) = elim (In-append z (bound_names inner) (bound_names rest) j) [
  | inl k ↦ inr (In-left z (written_names inner) (written_names rest) (bound-written inner z k))
  | inr k ↦ inr (In-right z (written_names inner) (written_names rest) (bound-written rest z k))
]

pub ids-written : (n : NodeArgs) (a : Applied) → In a (ids_of n) → (z : ℕ) → In z (values a.1) → In z (written_names n)
ids-written no_more a j z k = absurd j
ids-written (a_name x rest) a j z k = inr (ids-written rest a j z k)
ids-written (an_id b rest) a (inl e) z k = In-left z (values b.1) (written_names rest) (subst (λ (c : Applied). In z (values c.1)) e k)
ids-written (an_id b rest) a (inr j) z k = In-right z (values b.1) (written_names rest) (ids-written rest a j z k)
ids-written (a_binder x inner rest) a j z k = elim (In-append a (ids_of inner) (ids_of rest) j) [
  | inl i ↦ inr (In-left z (written_names inner) (written_names rest) (ids-written inner a i z k))
  | inr i ↦ inr (In-right z (written_names inner) (written_names rest) (ids-written rest a i z k))
]

-- names that are told apart are different again
pub different-with : (f : ℕ → ℕ) (xs : List ℕ) → ((x y : ℕ) → In x xs → In y xs → f x ≡ f y → x ≡ y) → AllDifferent xs → AllDifferent (map f xs)
different-with f [] inj d = tt
different-with f (x ∷ xs) inj d = (
  λ c.
      let p : (y : ℕ) × In y xs × (f x ≡ f y) = In-of_map f xs (f x) (In-Contains (map f xs) (f x) c) in
      d.0 (Contains-In xs x (subst (λ y. In y xs) (sym (inj x p.0 (inl refl) (inr p.1) p.2)) p.1)),
  different-with f xs (λ y z j k. inj y z (inr j) (inr k)) d.1,
)

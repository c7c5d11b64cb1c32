-- Each law of substitution held against small terms: a binder that would capture, a bound name that is not the free
-- one, and a value that stands in itself.
use Rattle.std.proofs.Common.{◌≡◌, ◌≢◌, ◌⊎◌, ℕ, [], ◌∷◌, ap, sym, ◌∙◌, refl, inl, inr, arith}
use Rattle.std.specs.Prelude.{Contains}
use Rattle.slotted_lists.proofs.Contained.{contains_head, contains_cases, Contains-nil}
use Rattle.slotted_theory.specs.Term.{Term}
use Rattle.slotted_theory.specs.Nameless.{DTerm, stop, place, scope, nameless, Alpha}
use Rattle.slotted_theory.specs.Renaming.{swapped}
use Rattle.slotted_theory.specs.Derives.{Equal, listed}
use Rattle.slotted_theory.specs.Shape.{free_names}
use Rattle.slotted_theory.proofs.Bijections.{to-injective, swap}
use Rattle.slotted_theory.proofs.Values.{child_before}
use Rattle.slotted_model.specs.Trees.{IsTree}
use Rattle.slotted_model.proofs.Data.Parts.{first_name}
use Rattle.slotted_model_rules.specs.Substitution.{substituted_args, substituted, StandsIn, replaced, HasOthersBound}
use Rattle.slotted_model_rules.proofs.Laws.{substitution-laws}
use Rattle.slotted_model_rules.proofs.Examples.SubstitutionExamples.{var, lam, app, word, others_bound, put_in_is_free}

-- the variable 8, the variable 7 that is put in its place, and (lam $7 (app (var $7) (var $8))), whose binder would
-- capture it
abbrev part : DTerm
part = nameless (var 8)

abbrev value : DTerm
value = nameless (var 7)

abbrev body : DTerm
body = nameless (lam 7 (app (var 7) (var 8)))

-- the word a becomes (app a a), in which it stands: that is not searched
whole_becomes_value : substituted (nameless word) (nameless (app word word)) (nameless word) ≡ nameless (app word word)
whole_becomes_value = substitution-laws.whole_is_replaced (nameless word) (nameless (app word word))

-- the body is not the variable 8, so it is searched under its binder: what is put in is not captured
body_is_searched : substituted part value body ≡ nameless (lam 9 (app (var 9) (var 7)))
body_is_searched = substitution-laws.others_are_searched part value body other
  where
    other : body ≢ part
    other e = let n : ◌≡◌ {A = ℕ} 2 1 = ap (λ (d : DTerm). d.op) e in omega arith

-- no argument is left
nothing_left : substituted_args part value stop ≡ stop
nothing_left = substitution-laws.arguments_are_searched.ends part value

-- the name 8 as an argument of its own is not the variable 8, which stands after it
name_stays : substituted_args part value (place 8 (child_before part stop)) ≡ place 8 (child_before value stop)
name_stays = substitution-laws.arguments_are_searched.own_names part value 8 (child_before part stop)

-- the first of two children is replaced, and the second stays
child_becomes_value : substituted_args part value (child_before part (child_before (nameless word) stop))
    ≡ child_before value (child_before (nameless word) stop)
child_becomes_value =
    substitution-laws.arguments_are_searched.children part value part (child_before (nameless word) stop)

-- under a binder the free names are one more: the variable 8 is the place 9, and the variable 7 becomes the place 8
under_binder : substituted_args part value (scope (child_before (nameless (var 9)) stop) stop)
    ≡ scope (child_before (nameless (var 8)) stop) stop
under_binder = substitution-laws.arguments_are_searched.binders part value (child_before (nameless (var 9)) stop) stop

-- in (lam $7 (var $7)) the free name 7 does not stand, although the binder has it
bound_name_stays : substituted (nameless (var 7)) (nameless word) (nameless (lam 7 (var 7))) ≡ nameless (lam 7 (var 7))
bound_name_stays =
    substitution-laws.nothing_is_replaced (nameless (var 7)) (nameless word) (nameless (lam 7 (var 7))) nowhere
  where
    nowhere : ¬ StandsIn (nameless (var 7)) (nameless (lam 7 (var 7)))
    nowhere (inl e) = let n : ◌≡◌ {A = ℕ} 2 1 = ap (λ (d : DTerm). d.op) e in omega arith
    nowhere (inr (inl (inl (inl e)))) = let n : ◌≡◌ {A = ℕ} 0 8 = ap (λ (d : DTerm). first_name d.args) e in omega arith
    nowhere (inr (inl (inl (inr k)))) = k
    nowhere (inr (inl (inr k))) = k
    nowhere (inr (inr k)) = k

-- the variable 8, by itself, under the binder
same_again : substituted part part body ≡ body
same_again = substitution-laws.replaced_by_itself part body

-- the names 7 and 8 exchanged: (lam $9 (app (var $9) (var $8))) is what becomes of (lam $8 (app (var $8) (var $7)))
names_exchanged : nameless (lam 9 (app (var 9) (var 8)))
    ≡ substituted value part (nameless (lam 8 (app (var 8) (var 7))))
names_exchanged =
    substitution-laws.substitution_moves_with_names (swapped 7 8) (to-injective (swap 7 8)) part value body

-- the name 7 of the result is one of what was put in, and not of the body, which binds it
name_of_value : (Contains (free_names body.args) 7 ⊎ Contains (free_names value.args) 7)
    × (¬ Contains (free_names body.args) 7)
name_of_value = (substitution-laws.names_come_from_both part value body 7 put_in_is_free, not_in_body)
  where
    not_in_body : ¬ Contains {X = ℕ} (8 ∷ []) 7
    not_in_body c = elim (contains_cases 8 [] 7 c) [
      | inl e ↦ omega arith
      | inr k ↦ Contains-nil 7 k
    ]

-- and it is free there, though it was put in under a binder of that name
value_is_not_captured : Contains (free_names (substituted part value body).args) 7
value_is_not_captured =
    substitution-laws.nothing_is_captured part value body (inr (inl (inl (inr (inr (inl (inl refl))))))) 7
    (contains_head 7 [])

-- where the binder is 9 it is replacing as it is written
written_with_other_binder : nameless (replaced (var 8) (var 7) (lam 9 (app (var 9) (var 8))))
    ≡ substituted part value body
written_with_other_binder =
    substitution-laws.replacing_is_substitution (var 8) (var 7) (lam 9 (app (var 9) (var 8))) others_bound

-- the binder 7 can be another, and then what is written is the substitution
binder_refreshed : (c : Term) × Alpha (lam 7 (app (var 7) (var 8))) c × HasOthersBound (var 8) (var 7) c
    × (nameless (replaced (var 8) (var 7) c) ≡ nameless (lam 9 (app (var 9) (var 7))))
binder_refreshed =
    let c = substitution-laws.binders_can_be_others (var 8) (var 7) (lam 7 (app (var 7) (var 8))) in (
      c.0,
      c.1,
      c.2,
      substitution-laws.replacing_is_substitution (var 8) (var 7) c.0 c.2 ∙ ap (substituted part value) (sym c.1),
    )

-- where a equals (app a a), so does (lam $7 (app (var $7) a)) what becomes of it under its binder
equal_under_binder : Equal ((nameless word, nameless (app word word)) ∷ []) (nameless (lam 7 (app (var 7) word)))
    (nameless (lam 7 (app (var 7) (app word word))))
equal_under_binder =
    substitution-laws.substitution_keeps_equality _ (nameless word) (nameless (app word word))
    (nameless (lam 7 (app (var 7) word)))
    (listed (contains_head _ []))

-- trees, of which one is put into the other
tree_put_in : IsTree (nameless (lam 9 (app (var 9) (var 7))))
tree_put_in =
    substitution-laws.trees_become_trees part value body (record { operator = omega arith; children = tt })
    (record { operator = omega arith; children = ((omega arith, (omega arith, tt, (omega arith, tt, tt)), tt), tt) })

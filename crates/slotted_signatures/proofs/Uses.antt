-- What a usage takes, by the kinds that stand in front and those that follow.
use Rattle.std.proofs.Common.{◌≡◌, ℕ, List, [], ◌∷◌, ◌++◌, length, drop, map, Bool, true, false, refl, sym, ap, subst, ◌∙◌, arith}
use Rattle.std.specs.Prelude.{◌≢◌, Decides, All, ◌==◌}
use Rattle.std.specs.List.{list_all}
use Rattle.std.proofs.lemmas.List.{map-append, append_cancel_left}
use Rattle.std.proofs.lemmas.Bool.{eqb-true}
use Rattle.std.proofs.lemmas.Bool.Decides.{Decides-by_and, Decides-eqb}
use Rattle.slotted_signatures.specs.Kinds.{number}
use Rattle.slotted_signatures.specs.UsedAsDeclared.{MayFollow, Takes}
use Rattle.slotted_signatures.specs.Shown.{is_child}
use Rattle.slotted_signatures.specs.Usage.{Usage}
use Rattle.slotted_signatures.specs.declared.kind.Kind.{Kind}
use Rattle.slotted_signatures.specs.declared.kind.Kind.TheVariants.{Slot, Child}

each-child : (ks : List ℕ) → Decides (list_all is_child ks) (All (λ k. k ≡ 1) ks)
each-child = Decides-by_and is_child (λ k. k ≡ 1) (list_all is_child) (λ k. Decides-eqb k 1) refl (λ _ _. refl)

-- what may follow, as the two cases test it
pub children-decided : (more b : Bool) (ks : List ℕ) → more ≡ true → b ≡ list_all is_child ks → Decides b (MayFollow more ks)
children-decided more b ks on is =
    subst (λ m. Decides b (MayFollow m ks)) (sym on) (subst (λ t. Decides t (All (λ k. k ≡ 1) ks)) (sym is) (each-child ks))

pub nothing-decided : (more b : Bool) (ks : List Kind) → more ≡ false → b ≡ (length ks == 0) → Decides b (MayFollow more (map number ks))
nothing-decided more b ks off is = subst (λ m. Decides b (MayFollow m (map number ks))) (sym off) (subst (λ t. Decides t (map number ks ≡ [])) (sym is) (empty ks))
  where
    empty : (ks : List Kind) → Decides (length ks == 0) (map number ks ≡ [])
    empty [] = (λ _. refl, λ _. refl)
    empty (k ∷ ks) = (λ e. absurd (omega (arith, eqb-true (length (k ∷ ks)) 0 e)), λ e. cc)

same-kind : (a b : Kind) → number a ≡ number b → a ≡ b
same-kind Slot Slot e = refl
same-kind Slot Child e = absurd (cc)
same-kind Child Slot e = absurd (cc)
same-kind Child Child e = refl

-- the kinds in front are told by their numbers
told : (all front : List Kind) (others : List ℕ) → map number all ≡ map number front ++ others → all ≡ front ++ drop (length front) all
told all [] others e = refl
told [] (k ∷ front) others e = absurd (cc)
told (a ∷ all) (k ∷ front) others e =
    let heads : number a ≡ number k = cc in
    let tails : map number all ≡ map number front ++ others = cc in
    (λ i. same-kind a k heads i ∷ told all front others tails i)

module _ (u : Usage) (all front : List Kind) (kinds : u.kinds ≡ map number front) where
  pub takes-decided : (b : Bool) (rest : List Kind) → all ≡ front ++ rest → Decides b (MayFollow u.more (map number rest)) → Decides b (Takes u (map number all))
  takes-decided b rest e decides =
      let numbers : map number all ≡ u.kinds ++ map number rest =
      ap (map number) e ∙ (map-append number front rest ∙ ap (λ l. l ++ map number rest) (sym kinds)) in (
        λ yes. (map number rest, numbers, decides.0 yes),
        λ t. decides.1 (subst (MayFollow u.more) (append_cancel_left u.kinds t.0 (map number rest) (sym t.1 ∙ numbers)) t.2),
      )

  pub takes-not : ((rest : List Kind) → all ≢ front ++ rest) → ¬ Takes u (map number all)
  takes-not other t = other (drop (length front) all) (told all front t.0 (t.1 ∙ ap (λ l. l ++ t.0) kinds))

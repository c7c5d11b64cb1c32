-- The number of a variable among those that were seen.
use Rattle.std.proofs.Common.{◌≡◌, ℕ, ◌+◌, ◌<◌, ◌≤◌, List, [], length, take, map, Bool, true, false, sym, ap, ◌∙◌, subst, arith, inl, inr, get_or, Some, None, String, string_bytes}
use Rattle.std.specs.Prelude.{Contains, bytes_eq}
use Rattle.std.specs.declared.alloc.Global.{Global}
use Rattle.std.proofs.lemmas.Bool.{false≢true}
use Rattle.std.proofs.lemmas.List.{get_or-map, length-map, take_all, take_more}
use Rattle.std.proofs.lemmas.List.Elements.{Contains-push_cases}
use Rattle.std.proofs.lemmas.Slice.Eq.{bytes_eq-Decides}
use Rattle.slotted_matching.specs.Compiled.{IsNumber}

module _ (vs : List (String Global)) (k : ℕ) (v : List ℕ) (e : String Global) (l : k < length vs) (at : e ≡ get_or vs k e) where
  abbrev pub names : List (List ℕ)
  names = map string_bytes vs

  within : k < length names
  within = omega (arith, l, length-map vs string_bytes)

  here : get_or names k [] ≡ string_bytes e
  here = get_or-map string_bytes vs k e [] l ∙ ap string_bytes (sym at)

  pub number-here : (b : List ℕ) (c : Bool) → b ≡ string_bytes e → c ≡ bytes_eq b v → c ≡ true → IsNumber names v (Some k)
  number-here b c is test t = (within, here ∙ (sym is ∙ (bytes_eq-Decides b v).0 (sym test ∙ t)))

  pub none-more : (b : List ℕ) (c : Bool) → b ≡ string_bytes e → c ≡ bytes_eq b v → c ≡ false → ¬ Contains (take k names) v → ¬ Contains (take (k + 1) names) v
  none-more b c is test f none h = elim (Contains-push_cases (take k names) (get_or names k []) v (subst (λ m. Contains m v) (take_more names k [] within) h)) [
    | inl i ↦ none i
    | inr i ↦ false≢true (sym (sym test ∙ f) ∙ (bytes_eq-Decides b v).1 (is ∙ (sym here ∙ i)))
  ]

pub none-in-all : (vs : List (String Global)) (k : ℕ) (v : List ℕ) → length vs ≤ k → ¬ Contains (take k (map string_bytes vs)) v → IsNumber (map string_bytes vs) v None
none-in-all vs k v l none h = none (subst (λ m. Contains m v) (sym (take_all k (map string_bytes vs) (omega (arith, l, length-map vs string_bytes)))) h)

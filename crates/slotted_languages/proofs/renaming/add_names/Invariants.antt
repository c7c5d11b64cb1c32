use Rattle.std.proofs.Common.{◌≡◌, take, true}
use Rattle.std.specs.Prelude.{ℕ}
use Rattle.slotted_slots.specs.Maps.{IsInEither, is_among}
use Rattle.slotted_languages.proofs.renaming.add_names.Given as goal

abbrev pub invariant-loop-i : goal.invariant-loop-i
invariant-loop-i g l =
    let names = (g.L.LanguageChildren.form l.node).names in
    record {
      kept : (x : ℕ) → is_among x l.fn.set ≡ true → is_among x l.set ≡ true;
      added : (x : ℕ) → is_among x (take l.i names) ≡ true → is_among x l.set ≡ true;
      within : (x : ℕ) → is_among x l.set ≡ true → IsInEither l.fn.set names x;
    }

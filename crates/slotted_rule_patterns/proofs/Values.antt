-- What a map from names to ids has at a name is the value of the variable.
use Rattle.std.proofs.Common.{◌≡◌, ℕ, List, [], ◌∷◌, Bool, true, false, refl, sym, ap, ◌∙◌, map}
use denote.Ref.{Bor}
use Rattle.std.specs.Option.{option_copied}
use Rattle.std.specs.Prelude.{Option, Some, None, option_map, cond, String, string_bytes}
use Rattle.std.specs.Bool.{Decides}
use Rattle.std.specs.BTreeMap.{BTreeMap, get_by_text}
use Rattle.std.specs.Map.{lookup}
use Rattle.std.specs.Ordering.{is_eq, nat_cmp}
use Rattle.std.specs.Cmp.Lexicographic.{slice_cmp}
use Rattle.std.specs.Str.{bytes_eq}
use Rattle.std.specs.declared.alloc.Global.{Global}
use Rattle.std.proofs.lemmas.Bool.Decides.{same_from_decides}
use Rattle.std.proofs.lemmas.Map.Text.{is_eq-slice_cmp}
use Rattle.std.proofs.lemmas.Slice.Eq.{bytes_eq-Decides}
use Rattle.slotted_theory.specs.Decided.{numbers_eq}
use Rattle.slotted_theory.proofs.Decides.{numbers_eq-true, numbers_eq-same}
use Rattle.slotted_slots.specs.declared.types.AppliedId.{AppliedId}
use Rattle.slotted_proofs.specs.Equations.{to_applied}
use Rattle.slotted_model_rules.specs.Matcher.{value_at}
use Rattle.slotted_rule_patterns.specs.Values.{values_of}

same_names : (v w : List ℕ) → bytes_eq v w ≡ numbers_eq w v
same_names v w =
    let by_bytes = bytes_eq-Decides v w in
    let test : Decides (numbers_eq w v) (v ≡ w) = (λ e. sym (numbers_eq-true w v e), λ e. ap (λ u. numbers_eq w u) e ∙ numbers_eq-same w) in
    same_from_decides (bytes_eq v w) (numbers_eq w v) by_bytes test

named : (b : Bool) (c : Bool) (a : AppliedId) (o : Option AppliedId) → b ≡ c → option_map to_applied (cond b (Some a) o) ≡ cond c (Some (to_applied a)) (option_map to_applied o)
named true c a o e = ap (λ d. cond d (Some (to_applied a)) (option_map to_applied o)) e
named false c a o e = ap (λ d. cond d (Some (to_applied a)) (option_map to_applied o)) e

looked_up : (v : List ℕ) (es : List (String Global × AppliedId)) → option_map to_applied (lookup (λ k. is_eq (slice_cmp nat_cmp v (string_bytes k))) es) ≡ value_at (map (λ e. (string_bytes e.0, to_applied e.1)) es) v
looked_up v [] = refl
looked_up v (e ∷ es) =
    let n = string_bytes e.0 in
    named (is_eq (slice_cmp nat_cmp v n)) (numbers_eq n v) e.1 (lookup (λ k. is_eq (slice_cmp nat_cmp v (string_bytes k))) es) (is_eq-slice_cmp v n ∙ same_names v n)
    ∙ ap (cond (numbers_eq n v) (Some (to_applied e.1))) (looked_up v es)

pub value-found : (m : BTreeMap (String Global) AppliedId) (v : List ℕ) → option_map to_applied (get_by_text m v) ≡ value_at (values_of m) v
value-found m v = looked_up v m.entries

pub copied : (o : Option (Bor AppliedId)) → option_map (λ a. to_applied a.now) o ≡ option_map to_applied (option_copied o)
copied None = refl
copied (Some a) = refl

-- The operator of an example is used as the example says.
use Rattle.std.proofs.Common.{◌≡◌, ℕ, ◌+◌, ◌-◌, ◌<◌, List, [], ◌∷◌, ◌++◌, length, take, drop, get_or, Bool, true, false, refl, sym, ap, subst, ◌∙◌, inl, inr, arith, append-nil}
use Rattle.std.specs.Prelude.{◌&&◌}
use Rattle.std.specs.List.{list_all}
use Rattle.std.proofs.lemmas.Bool.{eqb-true, false≢true}
use Rattle.std.proofs.lemmas.List.{drop_all, drop_more, take-append-drop}
use Rattle.std.proofs.lemmas.List.Elements.{All-cons, All-nil}
use Rattle.std.proofs.lemmas.Option.{cond_some, slice_get-get_or}
use Rattle.slotted_nodes.specs.Form.{Form}
use Rattle.slotted_patterns.specs.Subpatterns.{patterns_in}
use Rattle.slotted_signatures.specs.Kinds.{word_of, kinds_of}
use Rattle.slotted_signatures.specs.OwnExamples.{ExamplesAreRight}
use Rattle.slotted_signatures.specs.Shown.{has_more, is_child, is_dots, is_word, last_of, passes, usage_of}
use Rattle.slotted_signatures.specs.Usage.{Usage}
use Rattle.slotted_signatures.specs.UsedAsDeclared.{Takes}

last-child : (ks : List ℕ) → passes is_child (last_of ks) ≡ true → ks ≡ take (length ks - 1) ks ++ 1 ∷ []
last-child [] e = absurd (false≢true e)
last-child (k ∷ ks) e =
    let all = k ∷ ks in
    let i = length all - 1 in
    let lt : i < length all = omega arith in
    let one : get_or all i 0 ≡ 1 = eqb-true (get_or all i 0) 1 (sym (ap (passes is_child) (slice_get-get_or all i 0 lt)) ∙ e) in
    let none : drop (i + 1) all ≡ [] = drop_all (i + 1) all (omega arith) in
    sym (take-append-drop i all) ∙ ap (λ l. take i all ++ l) (drop_more all i 0 lt ∙ (λ j. one j ∷ none j))

takes-own : (f : Form) (text : List ℕ) (more : Bool) → (more ≡ true → passes is_child (last_of (kinds_of f)) ≡ true) → Takes (usage_of f more text) (kinds_of f)
takes-own f text false e = ([], sym (append-nil (kinds_of f)), refl)
takes-own f text true e = (
  1 ∷ [],
  last-child (kinds_of f) (e refl),
  All-cons (λ k. k ≡ 1) 1 [] refl (All-nil (λ k. k ≡ 1)),
)

first-true : (a b : Bool) → (a && b) ≡ true → a ≡ true
first-true true b e = refl
first-true false b e = e

pub examples-right : ExamplesAreRight
examples-right us text f row u shown has =
    let more = has_more f row in
    let is = cond_some (list_all is_word (patterns_in row)) (usage_of f more text) u shown in
    let own = takes-own f text more (first-true (passes is_child (last_of (kinds_of f))) (passes is_dots (last_of (patterns_in row)))) in
    let use' : (u.word ≡ word_of f) × Takes u (kinds_of f) = subst (λ (u : Usage). (u.word ≡ word_of f) × Takes u (kinds_of f)) is.1 (refl, own) in
    inr (inl (has.0, u, has.1, has.2, use'))

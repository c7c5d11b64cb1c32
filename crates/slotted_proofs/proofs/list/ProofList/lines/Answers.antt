use Rattle.std.proofs.Common.{◌≡◌, ℕ, List, [], ◌∷◌, ◌++◌, ◌-◌, ◌<◌, Option, Some, None, IfSome, IfNone, refl, take, reverse, sym, ap, ◌∙◌, subst}
use Rattle.std.proofs.lemmas.List.{reverse-append}
use Rattle.slotted_proofs.specs.Entries.{Proven}
use Rattle.slotted_proofs.specs.Lines.{PartsAreEarlier, TakesTurn, first_new, parts_at}
use Rattle.slotted_proofs.proofs.Lining.{IsLining, lining_starts, lining_pushed, lining_popped, lining_ends, turns_left, turns-less}
use Rattle.slotted_proofs.proofs.list.ProofList.lines.Goals as goal

-- the last of a list is the top
top_first : (xs : List ℕ) (x : ℕ) → reverse (xs ++ x ∷ []) ≡ x ∷ reverse xs
top_first xs x = reverse-append xs (x ∷ [])

-- the stack before its top was taken
taken : (list : List Proven) (root : ℕ) (lines stack rest : List ℕ) (p : ℕ) → stack ≡ rest ++ p ∷ [] → IsLining list root lines (reverse stack) → IsLining list root lines (p ∷ reverse rest)
taken list root lines stack rest p e i = subst (IsLining list root lines) (ap reverse e ∙ top_first rest p) i

-- and with its top and one more on it
two_first : (xs : List ℕ) (x y : ℕ) → reverse (xs ++ x ∷ y ∷ []) ≡ y ∷ x ∷ reverse xs
two_first xs x y = reverse-append xs (x ∷ y ∷ [])

-- a turn goes on
goes_on : (list : List Proven) (root : ℕ) (lines lines' rest stack' : List ℕ) (p : ℕ) → PartsAreEarlier list → IsLining list root lines (p ∷ reverse rest) → TakesTurn list p lines lines' rest stack' → IsLining list root lines' (reverse stack')
goes_on list root lines lines' rest stack' p earlier before turn = by (first_new lines (parts_at list p)) refl turn.part turn.line
  where
    by : (o : Option ℕ) → first_new lines (parts_at list p) ≡ o → IfSome o (λ q. (lines' ≡ lines) × (stack' ≡ rest ++ p ∷ q ∷ [])) → IfNone o ((lines' ≡ lines ++ p ∷ []) × (stack' ≡ rest)) → IsLining list root lines' (reverse stack')
    by (Some q) e part line =
        subst (λ l. IsLining list root l (reverse stack')) (sym part.0)
        (subst (IsLining list root lines) (sym (ap reverse part.1 ∙ two_first rest p q)) (lining_pushed list earlier root lines (reverse rest) p q before e))
    by None e part line =
        subst (λ l. IsLining list root l (reverse stack')) (sym line.0)
        (subst (λ s. IsLining list root (lines ++ p ∷ []) (reverse s)) (sym line.1) (lining_popped list root lines (reverse rest) p before e))

pub loop-top-init : goal.loop-top-init
loop-top-init c =
    subst (λ l. IsLining c.args.self.now c.args.p l (reverse c.push.new.self.items)) (sym c.new-lines.ensures)
    (subst (λ s. IsLining c.args.self.now c.args.p [] (reverse s)) (sym (c.in_ok-push.ensures.items ∙ ap (λ s. s ++ c.args.p ∷ []) c.new-stack.ensures.items)) (lining_starts c.args.self.now c.args.p c.requires.within))

pub returns-clause-ok : goal.returns-clause-ok
returns-clause-ok c =
    let items = c.loop-top.stack.items in
    let none : items ≡ [] = c.in_default.ensures.items ∙ ap (λ xs. xs ++ []) (c.in_default.ensures.rest ∙ ap (λ n. take (n - 1) items) c.in_default.ensures.cases.0) in
    lining_ends c.args.self.now c.args.p c.loop-top.lines (subst (λ s. IsLining c.args.self.now c.args.p c.loop-top.lines (reverse s)) none c.loop-top.invariant)

pub take_turn-requires-clause-within : goal.take_turn-requires-clause-within
take_turn-requires-clause-within c =
    (taken c.args.self.now c.args.p c.loop-top.lines c.loop-top.stack.items c.pop.new.self.items c.in-Some.top c.in-Some.ensures.items c.loop-top.invariant).stacked.1

pub take_turn-requires-clause-new : goal.take_turn-requires-clause-new
take_turn-requires-clause-new c =
    (taken c.args.self.now c.args.p c.loop-top.lines c.loop-top.stack.items c.pop.new.self.items c.in-Some.top c.in-Some.ensures.items c.loop-top.invariant).stacked.0

pub loop-top-smaller : goal.loop-top-smaller
loop-top-smaller c =
    let list = c.args.self.now in
    let p = c.in-Some.top in
    let lines = c.loop-top.lines in
    let rest = c.pop.new.self.items in
    let before = taken list c.args.p lines c.loop-top.stack.items rest p c.in-Some.ensures.items c.loop-top.invariant in
    subst (λ s. turns_left list c.take_turn.new.lines c.take_turn.new.stack.items < turns_left list lines s) (sym c.in-Some.ensures.items)
    (turns-less list p lines c.take_turn.new.lines rest c.take_turn.new.stack.items c.requires.earlier before.stacked.1 before.stacked.0
    before.stacked.2 c.in_ok-take_turn.ensures.ok)

pub loop-top-preserved : goal.loop-top-preserved
loop-top-preserved c =
    let list = c.args.self.now in
    let p = c.in-Some.top in
    let rest = c.pop.new.self.items in
    let before = taken list c.args.p c.loop-top.lines c.loop-top.stack.items rest p c.in-Some.ensures.items c.loop-top.invariant in
    goes_on list c.args.p c.loop-top.lines c.take_turn.new.lines rest c.take_turn.new.stack.items p c.requires.earlier before c.in_ok-take_turn.ensures.ok

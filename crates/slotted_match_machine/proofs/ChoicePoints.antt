-- What the machine has still to answer at its choice points, and how many rows it visits there at most.
use Rattle.std.specs.Prelude.{Bool, true, false, cond, Option, Some, None, Result, Ok, Err, IfOk, OnOk, reverse, sum_by}
use Rattle.std.proofs.Common.{◌≡◌, ◌≤◌, ◌<◌, ◌+◌, ◌*◌, ◌++◌, ℕ, zero, suc, List, [], ◌∷◌, take, length, sym, subst, ◌∙◌, ap, refl, arith, append_assoc}
use Rattle.std.specs.List.{flat_map}
use Rattle.std.proofs.lemmas.List.{take-take, length-take, nil_from_length}
use Rattle.std.proofs.Math.Seq.{take-length}
use Rattle.std.proofs.Math.Nat.{mul-le-mul_right}
use denote.Ref.{Bor}
use Rattle.slotted_match_machine.specs.declared.index.ClassRows.{ClassRows}
use Rattle.slotted_match_machine.specs.declared.index.IndexRow.{IndexRow}
use Rattle.slotted_match_machine.specs.declared.machine.Choice.{Choice}
use Rattle.slotted_match_machine.specs.declared.machine.Mark.{Mark}
use Rattle.slotted_match_machine.specs.declared.program.Step.{Step}
use Rattle.slotted_match_machine.specs.Machine.{Answer, MachineState, answers_of, rows_in}
use Rattle.slotted_match_machine.specs.Scratch.{Scratch, state_of, mark_of, cut_to, Extends}
use Rattle.slotted_match_machine.specs.Answers.{answers_from, answers_with, answers_of_row, rows_of_outline}
use Rattle.slotted_match_machine.specs.Choices.{answers_of_choice, answers_at_all, IsChoice, AreChoices, row_count, moves_after, moves_at}

cut-list : {A : Type 0} (n : ℕ) (old new : List A) → n ≡ length (take n old) → take (length old) new ≡ old → take n new ≡ take n old
cut-list n old new e h = sym (take-take n (length old) new (omega (arith, e, length-take n old))) ∙ ap (take n) h

-- the machine backtracks to the same from where it extends
cut-extended : (m : Mark) (s t : Scratch) → m ≡ mark_of (cut_to m s) → Extends s t → cut_to m t ≡ cut_to m s
cut-extended m s t h e = λ i. record {
  classes = ap (λ (q : Scratch). q.classes) e i;
  root = ap (λ (q : Scratch). q.root) e i;
  registers = cut-list m.registers s.registers t.registers (ap (λ (k : Mark). k.registers) h) (ap (λ (q : Scratch). q.registers) e) i;
  frames = cut-list m.frames s.frames t.frames (ap (λ (k : Mark). k.frames) h) (ap (λ (q : Scratch). q.frames) e) i;
  pairs = cut-list m.pairs s.pairs t.pairs (ap (λ (k : Mark). k.pairs) h) (ap (λ (q : Scratch). q.pairs) e) i;
  values = cut-list m.values s.values t.values (ap (λ (k : Mark). k.values) h) (ap (λ (q : Scratch). q.values) e) i;
  count = m.count;
}

cut-whole : (s : Scratch) → cut_to (mark_of s) s ≡ s
cut-whole s = λ i. record {
  classes = s.classes;
  root = s.root;
  registers = take-length s.registers i;
  frames = take-length s.frames i;
  pairs = take-length s.pairs i;
  values = take-length s.values i;
  count = s.count;
}

-- so its choices are the same, and what it has to answer there
pub choices-extended : (s t : Scratch) (cs : List Choice) → Extends s t → AreChoices s cs → AreChoices t cs × (answers_at_all t cs ≡ answers_at_all s cs)
choices-extended s t [] e h = (tt, refl)
choices-extended s t (c ∷ cs) e h =
    let k = cut-extended c.mark s t h.0.mark e in
    (subst (λ (q : Scratch). IsChoice q c × AreChoices q cs) (sym k) h, ap (λ (q : Scratch). answers_of_choice q c ++ answers_at_all q cs) k)

-- a choice more
pub choice-added : (s : Scratch) (c : Choice) (cs : List Choice) → IsChoice s c → AreChoices s cs →
    AreChoices s (c ∷ cs) × (answers_at_all s (c ∷ cs) ≡ answers_of_choice s c ++ answers_at_all s cs)
choice-added s c cs h all =
    let k : cut_to c.mark s ≡ s = ap (λ m. cut_to m s) h.mark ∙ cut-whole s in
    (subst (λ (q : Scratch). IsChoice q c × AreChoices q cs) (sym k) (h, all), ap (λ (q : Scratch). answers_of_choice q c ++ answers_at_all q cs) k)

-- a choice without rows
pub choice-empty : (s : Scratch) (c : Choice) (more : List Answer) → length c.rows.now ≡ 0 → more ≡ answers_of_choice s c ++ more
choice-empty s c more e =
    ap (λ rows. flat_map (answers_of_row s c.rest.now c.from c.slots.now) (rows_of_outline c.outline rows) ++ more) (sym (nil_from_length c.rows.now e))

-- what is answered from where the machine comes to
pub answers-reached : (s t : Scratch) (rest : List Step) (o : Option MachineState) (y : Bool) → Extends s t → o ≡ cond y (Some (state_of t)) None →
    answers_with s rest o ≡ cond y (answers_from t rest) []
answers-reached s t rest o y e h = ap (answers_with s rest) h ∙ go y
  where
    go : (b : Bool) → answers_with s rest (cond b (Some (state_of t)) None) ≡ cond b (answers_from t rest) []
    go true = ap (λ (q : Scratch). answers_of q.classes rest (state_of t)) (sym e)
    go false = refl

-- what is left to answer where a step was taken: at what it comes to, and at the choices from before
pub step-taken : {E : Type 0} (r : Result Bool E) (s t : Scratch) (rest : List Step) (o : Option MachineState) (cs ds : List Choice) →
    AreChoices s (reverse cs) → IfOk r (λ y. o ≡ cond y (Some (state_of t)) None) → OnOk r (Extends s t) → OnOk r (ds ≡ cs) →
    IfOk r (λ y. answers_with s rest o ++ answers_at_all s (reverse cs) ≡ cond y (answers_from t rest) [] ++ answers_at_all t (reverse ds))
step-taken (Ok y) s t rest o cs ds h k e same = λ i.
    answers-reached s t rest o y e k i ++ (sym (choices-extended s t (reverse cs) e h).1 ∙ ap (λ l. answers_at_all t (reverse l)) (sym same)) i
step-taken (Err x) s t rest o cs ds h k e same = k

pub choices-kept : {E : Type 0} (r : Result Bool E) (s t : Scratch) (cs ds : List Choice) → AreChoices s (reverse cs) → OnOk r (Extends s t) → OnOk r (ds ≡ cs) →
    OnOk r (AreChoices t (reverse ds))
choices-kept (Ok y) s t cs ds h e same = subst (λ l. AreChoices t (reverse l)) (sym same) (choices-extended s t (reverse cs) e h).0
choices-kept (Err x) s t cs ds h e same = e

pub moves-kept : {E : Type 0} (r : Result Bool E) (s t : Scratch) (cs ds : List Choice) → OnOk r (Extends s t) → OnOk r (ds ≡ cs) →
    OnOk r (sum_by (moves_at t.classes) ds ≡ sum_by (moves_at s.classes) cs)
moves-kept (Ok y) s t cs ds e same = λ i. sum_by (moves_at (ap (λ (q : Scratch). q.classes) e i)) (same i)
moves-kept (Err x) s t cs ds e same = e

-- the first row of a choice, and those after it
pub row-first : (s t : Scratch) (c : Choice) (row : IndexRow) (rows : Bor (List IndexRow)) (old new : List Answer) →
    rows_of_outline c.outline c.rows.now ≡ row ∷ rows_of_outline c.outline rows.now → t ≡ s →
    new ≡ answers_of_choice s (record c { rows = rows }) ++ old →
    answers_of_choice s c ++ old ≡ answers_of_row t c.rest.now c.from c.slots.now row ++ new
row-first s t c row rows old new first e left =
    let gives = answers_of_row s c.rest.now c.from c.slots.now in
    ap (λ rs. flat_map gives rs ++ old) first
    ∙ (append_assoc (gives row) (answers_of_choice s (record c { rows = rows })) old
    ∙ (λ i. answers_of_row (sym e i) c.rest.now c.from c.slots.now row ++ sym left i))

-- a choice has fewer moves with fewer rows
pub moves-fewer : (classes : List ClassRows) (c : Choice) (rows : Bor (List IndexRow)) (old new : ℕ) → length rows.now < length c.rows.now →
    new ≤ moves_at classes (record c { rows = rows }) + old → new + moves_after classes c.rest.now < moves_at classes c + old
moves-fewer classes c rows old new h l = go (moves_after classes c.rest.now) l
  where
    go : (w : ℕ) → new ≤ suc (length rows.now) * suc w + old → new + w < suc (length c.rows.now) * suc w + old
    go w k = omega (arith, mul-le-mul_right {m = suc (suc (length rows.now))} {n = suc (length c.rows.now)} (suc w) (omega arith))

-- a class has no more rows than all classes
rows-counted : (classes : List ClassRows) (c : ℕ) → length (rows_in classes c) ≤ row_count classes
rows-counted [] c = omega arith
rows-counted (k ∷ classes) zero = omega arith
rows-counted (k ∷ classes) (suc c) = omega (arith, rows-counted classes c)

pub moves-node : (classes : List ClassRows) (c : Choice) (step : Step) (class : ℕ) → c.rows.now ≡ rows_in classes class →
    moves_at classes c ≤ moves_after classes (step ∷ c.rest.now)
unfolding moves_after
moves-node classes c step class e =
    mul-le-mul_right {m = suc (length c.rows.now)} {n = suc (row_count classes)} (suc (moves_after classes c.rest.now))
    (omega (arith, ap length e, rows-counted classes class))

pub moves-variable : (classes : List ClassRows) (step : Step) (rest : List Step) → moves_after classes rest ≤ moves_after classes (step ∷ rest)
unfolding moves_after
moves-variable classes step rest =
    omega (arith, mul-le-mul_right {m = 1} {n = suc (row_count classes)} (suc (moves_after classes rest)) (omega arith))

-- The entries of a proof list: what is found among them, and what is put after them.
use Rattle.std.proofs.Common.{◌≡◌, ℕ, zero, suc, ◌+◌, ◌<◌, List, [], ◌∷◌, ◌++◌, length, Option, Some, Bool, true, false, cond, refl, sym, ap, ◌∙◌, subst, inl, inr, arith}
use Rattle.std.specs.Prelude.{map, is_some, position, slice_get, slice_index_or, Result, Ok, Err, IfOk, OnOk}
use Rattle.std.specs.Map.{keys_of, lookup}
use Rattle.std.proofs.lemmas.List.Quantifiers.{position-Some}
use Rattle.std.proofs.lemmas.Bool.{false≢true, cases_Bool}
use Rattle.std.proofs.lemmas.List.{map-append}
use Rattle.std.proofs.lemmas.Grind.{common_steps}
use Rattle.indexmap.specs.IndexMap.{insert_entry}
use Rattle.slotted_proofs.specs.declared.equation.Equation.{Equation as Sides}
use Rattle.slotted_proofs.specs.declared.proof.Proof.{Proof}
use Rattle.slotted_proofs.specs.Equations.{Statement, statement_of, IsWritten}
use Rattle.slotted_slots.specs.declared.error.Error.{Error}
use Rattle.slotted_proofs.specs.Entries.{Proven, proven_at, proven_of, entries_of, statement_at, is_explicit, explicit_from, Stands, IsNew, Enters}
use Rattle.slotted_proofs.specs.Stored.{AreWritten}
use Rattle.slotted_proofs.proofs.Written.{sides_eq, sides_eq-same, same_statement, written_once}

-- what the list shows of its map
abbrev pub shown : List (Sides × Proof) → List Proven
shown es = map (λ e. proven_of e.0 e.1) es

-- what stands behind the first entry stands in the whole list, one further on
stands_later : (x : Proven) (list : List Proven) (s : Statement) (p : ℕ) → Stands list s p → Stands (x ∷ list) s (suc p)
stands_later x list s p h = let l : p < length list = h.in_range in record { in_range = omega arith; statement = h.statement }

new_later : (x : Proven) (list : List Proven) (s : Statement) → IsNew (x ∷ list) s → IsNew list s
new_later x list s n p h = n (suc p) (stands_later x list s p h)

-- what stands at a place is what the equation there states
statement_at-key : (es : List (Sides × Proof)) (p : ℕ) (d : Sides) → p < length (keys_of es) → statement_at (shown es) p ≡ statement_of (slice_index_or (keys_of es) p d)
statement_at-key [] p d l = absurd (omega arith)
statement_at-key (x ∷ es) zero d l = refl
statement_at-key (x ∷ es) (suc p) d l = statement_at-key es p d (omega arith)

length-shown : (es : List (Sides × Proof)) → length (shown es) ≡ length (keys_of es)
length-shown [] = refl
length-shown (x ∷ es) = ap suc (length-shown es)

-- an equation that the map has stands at its place
pub found_stands : (es : List (Sides × Proof)) (e : Sides) (p : ℕ) → position (sides_eq e) (keys_of es) ≡ Some p → Stands (shown es) (statement_of e) p
found_stands es e p h =
    let at : (p < length (keys_of es)) × (sides_eq e (slice_index_or (keys_of es) p e) ≡ true) × ((k : ℕ) → k < p → sides_eq e (slice_index_or (keys_of es) k e) ≡ false) = position-Some (sides_eq e) (keys_of es) p e h in
    let n : length (shown es) ≡ length (keys_of es) = length-shown es in
    let f : Sides = slice_index_or (keys_of es) p e in
    record {
      in_range = omega (arith, at.0);
      statement = statement_at-key es p e at.0 ∙ sym (same_statement e f ((sides_eq-same e f).0 at.1));
    }

-- the equation at a place has numbered names
pub written_at : (es : List (Sides × Proof)) (p : ℕ) (e : Sides × Proof) → AreWritten es → slice_get es p ≡ Some e → IsWritten (statement_at (shown es) p) e.0
written_at [] p e w h = absurd (cc)
written_at (x ∷ es) zero e w h =
    let same : x ≡ e = cc in
    subst (λ y. IsWritten (statement_of x.0) y) (ap (λ (y : Sides × Proof). y.0) same) w.0
written_at (x ∷ es) (suc p) e w h = written_at es p e w.1 h

-- what the list shows there
pub shown_at : (es : List (Sides × Proof)) (p : ℕ) (e : Sides × Proof) → slice_get es p ≡ Some e → proven_at (shown es) p ≡ proven_of e.0 e.1
shown_at [] p e h = absurd (cc)
shown_at (x ∷ es) zero e h =
    let same : x ≡ e = cc in
    ap (λ (y : Sides × Proof). proven_of y.0 y.1) same
shown_at (x ∷ es) (suc p) e h = shown_at es p e h

-- the equation of an entry has numbered names and states what stands there
written_stands : (es : List (Sides × Proof)) (s : Statement) (p : ℕ) → AreWritten es → Stands (shown es) s p → (e : Sides × Proof) × (slice_get es p ≡ Some e) × IsWritten s e.0
written_stands [] s p w h = absurd (let l : p < 0 = h.in_range in omega arith)
written_stands (x ∷ es) s zero w h = (x, refl, subst (λ t. IsWritten t x.0) h.statement w.0)
written_stands (x ∷ es) s (suc p) w h = written_stands es s p w.1 (let l : suc p < suc (length (shown es)) = h.in_range in record { in_range = omega arith; statement = h.statement })

-- an equation that the map has not is at no place
no_first : (b : Bool) (v : Proof) (o : Option Proof) → is_some (cond b (Some v) o) ≡ false → (b ≡ false) × (is_some o ≡ false)
no_first true v o h = absurd (false≢true (sym h))
no_first false v o h = (refl, h)

not_found : (es : List (Sides × Proof)) (e : Sides) (p : ℕ) (x : Sides × Proof) → is_some (lookup (sides_eq e) es) ≡ false → slice_get es p ≡ Some x → sides_eq e x.0 ≡ false
not_found [] e p x n h = absurd (cc)
not_found (y ∷ es) e zero x n h =
    let same : y ≡ x = cc in
    ap (λ (z : Sides × Proof). sides_eq e z.0) (sym same) ∙ (no_first (sides_eq e y.0) y.1 (lookup (sides_eq e) es) n).0
not_found (y ∷ es) e (suc p) x n h = not_found es e p x (no_first (sides_eq e y.0) y.1 (lookup (sides_eq e) es) n).1 h

pub absent_new : (es : List (Sides × Proof)) (e : Sides) → AreWritten es → IsWritten (statement_of e) e → is_some (lookup (sides_eq e) es) ≡ false → IsNew (shown es) (statement_of e)
absent_new es e w v n p h =
    let x = written_stands es (statement_of e) p w h in
    false≢true (sym (not_found es e p x.0 n x.1) ∙ (sides_eq-same e x.0.0).1 (written_once (statement_of e) e x.0.0 v x.2))

-- a new equation goes after all others
pub insert_new : (es : List (Sides × Proof)) (e : Sides) (proof : Proof) → IsNew (shown es) (statement_of e) → insert_entry sides_eq es e proof ≡ es ++ (e, proof) ∷ []
insert_new [] e proof n = refl
insert_new (x ∷ es) e proof n = elim (cases_Bool (sides_eq e x.0)) [
  | inl same ↦ absurd (n 0 (record { in_range = omega arith; statement = sym (same_statement e x.0 ((sides_eq-same e x.0).0 same)) }))
  | inr other ↦
      ap (λ b. cond b ((x.0, proof) ∷ es) (x ∷ insert_entry sides_eq es e proof)) other
      ∙ ap (λ r. x ∷ r) (insert_new es e proof (new_later (proven_of x.0 x.1) (shown es) (statement_of e) n))
]

-- with it all have numbered names still
pub written_more : (es : List (Sides × Proof)) (e : Sides) (proof : Proof) → AreWritten es → IsWritten (statement_of e) e → AreWritten (es ++ (e, proof) ∷ [])
written_more [] e proof w v = (v, tt)
written_more (x ∷ es) e proof w v = (w.0, written_more es e proof w.1 v)

pub shown-more : (es : List (Sides × Proof)) (e : Sides) (proof : Proof) → shown (es ++ (e, proof) ∷ []) ≡ shown es ++ proven_of e proof ∷ []
shown-more es e proof = map-append (λ x. proven_of x.0 x.1) es ((e, proof) ∷ [])

-- an entry at the end that is not explicit adds no number
pub explicit-other : (i : ℕ) (list : List Proven) (x : Proven) → is_explicit x.step ≡ false → explicit_from i (entries_of (list ++ x ∷ [])) ≡ explicit_from i (entries_of list)
explicit-other i [] x h = ap (λ b. cond b (i ∷ []) []) h
explicit-other i (y ∷ list) x h = ap (λ r. cond (is_explicit y.step) (i ∷ r) r) (explicit-other (suc i) list x h)

number_last : (b : Bool) (i n m : ℕ) (ns : List ℕ) → n ≡ m → cond b (i ∷ (ns ++ n ∷ [])) (ns ++ n ∷ []) ≡ cond b (i ∷ ns) ns ++ m ∷ []
number_last true i n m ns e = ap (λ k. i ∷ (ns ++ k ∷ [])) e
number_last false i n m ns e = ap (λ k. ns ++ k ∷ []) e

-- an explicit one adds its own
pub explicit-asserted : (i : ℕ) (list : List Proven) (x : Proven) → is_explicit x.step ≡ true → explicit_from i (entries_of (list ++ x ∷ [])) ≡ explicit_from i (entries_of list) ++ (i + length list) ∷ []
explicit-asserted i [] x h = ap (λ b. cond b (i ∷ []) []) h ∙ ap (λ n. n ∷ []) (omega arith)
explicit-asserted i (y ∷ list) x h =
    ap (λ r. cond (is_explicit y.step) (i ∷ r) r) (explicit-asserted (suc i) list x h)
    ∙ number_last (is_explicit y.step) i (suc i + length list) (i + suc (length list)) (explicit_from (suc i) (entries_of list)) (omega arith)

-- what is new and put last is entered
pub entered_last : (old new : List Proven) (x : Proven) (p : ℕ) → IsNew old x.statement → p ≡ length old → new ≡ old ++ x ∷ [] → Enters old new x p
entered_last old new x p is_new at more = grind (arith, common_steps, is_new, at, more)

pub entered_by : (r : Result ℕ Error) (old new : List Proven) (x : Proven) → IsNew old x.statement → OnOk r (new ≡ old ++ x ∷ []) → IfOk r (λ p. p ≡ length old) → IfOk r (Enters old new x)
entered_by (Ok p) old new x is_new more at = entered_last old new x p is_new at more
entered_by (Err e) old new x is_new more at = tt

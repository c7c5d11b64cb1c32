-- The state at a class, and after a row was entered.
use Rattle.std.specs.Prelude.{option_map, Option, Some, None, reverse, map}
use Rattle.std.specs.List.{All, range_with_len}
use Rattle.std.proofs.Common.{◌≡◌, ◌+◌, ◌++◌, ℕ, List, [], ◌∷◌, take, length, sym, ◌∙◌, ap, refl, arith}
use Rattle.std.proofs.lemmas.List.{map-append, length-append, take_all}
use Rattle.std.proofs.lemmas.List.FromFn.{length-range_with_len}
use Rattle.std.proofs.lemmas.List.Elements.{All-head, All-tail, All-push, All-weaker}
use denote.Ref.{Bor}
use Rattle.slotted_model_rules.specs.Goals.{paired_all}
use Rattle.slotted_match_machine.specs.declared.index.ClassRows.{ClassRows}
use Rattle.slotted_match_machine.specs.declared.index.IndexRow.{IndexRow}
use Rattle.slotted_match_machine.specs.declared.names.Frame.{Frame}
use Rattle.slotted_match_machine.specs.declared.view.View.{View}
use Rattle.slotted_match_machine.specs.declared.view.Register.{Register}
use Rattle.slotted_match_machine.specs.Machine.{names_for, new_names, named, child_occurrence, entered, after_row, slot_count_in, started}
use Rattle.slotted_match_machine.specs.Views.{IsIn, names_of, names_at, occurrence_of, occurrences_in}
use Rattle.slotted_match_machine.specs.Scratch.{Scratch, state_of, IsReadable}
use Rattle.slotted_match_machine.proofs.Naming.{names_of-grown, names_at-grown, names_of-last}
use Rattle.slotted_match_machine.proofs.NewNames.{length-names_for, new_names-le}

-- more names change no occurrence
occurrences-grown : (frames more : List ℕ) (vs : List View) → All (λ v. IsIn frames v.names.frame) vs → map (occurrence_of (frames ++ more)) vs ≡ map (occurrence_of frames) vs
occurrences-grown frames more [] h = refl
occurrences-grown frames more (v ∷ vs) h = λ i.
    record { class = v.class; names = names_at-grown frames more v.names (All-head (λ v. IsIn frames v.names.frame) v vs h) i }
    ∷ occurrences-grown frames more vs (All-tail (λ v. IsIn frames v.names.frame) v vs h) i

registers-grown : (frames more : List ℕ) (rs : List Register) → All (λ r. IsIn frames r.frame) rs → map (occurrences_in (frames ++ more)) rs ≡ map (occurrences_in frames) rs
registers-grown frames more [] h = refl
registers-grown frames more (r ∷ rs) h = λ i.
    map (child_occurrence (names_of-grown frames more r.frame (All-head (λ r. IsIn frames r.frame) r rs h) i)) r.children.now
    ∷ registers-grown frames more rs (All-tail (λ r. IsIn frames r.frame) r rs h) i

-- the scratch after a row was entered: its numbers have these names, and it is in this register
abbrev pub with_row : Scratch → List ℕ → ℕ → Register → List (ℕ × ℕ) → Scratch
with_row s more count r pairs = record s { registers = s.registers ++ r ∷ []; frames = s.frames ++ more; pairs = pairs; count = count }

-- the last register has the children of the row
register-last : (s : Scratch) (r : IndexRow) (more : List ℕ) (q : Register) →
    IsReadable s → q.children.now ≡ r.children.items → q.frame.start ≡ length s.frames → length more ≡ q.frame.count →
    map (occurrences_in (s.frames ++ more)) (s.registers ++ q ∷ []) ≡ map (occurrences_in s.frames) s.registers ++ map (child_occurrence more) r.children.items ∷ []
register-last s r more q w e f g =
    map-append (occurrences_in (s.frames ++ more)) s.registers (q ∷ [])
    ∙ (λ i. registers-grown s.frames more s.registers w.registers i ++ map (child_occurrence (names_of-last s.frames more q.frame f g i)) (e i) ∷ [])

pub with_row-state : (s : Scratch) (r : IndexRow) (more : List ℕ) (q : Register) (pairs : List (ℕ × ℕ)) →
    IsReadable s → q.children.now ≡ r.children.items → q.frame.start ≡ length s.frames → length more ≡ q.frame.count →
    state_of (with_row s more (s.count + new_names r.slots.items) q pairs) ≡ entered (state_of s) more r (reverse pairs)
with_row-state s r more q pairs w e f g = λ i. record {
  registers = (record { class = s.root.class; names = names_at-grown s.frames more s.root.names w.root i } ∷ []) ∷ register-last s r more q w e f g i;
  pairs = reverse pairs;
  values = occurrences-grown s.frames more s.values w.values i;
  count = s.count + new_names r.slots.items;
}

pub with_row-readable : (s : Scratch) (r : IndexRow) (more : List ℕ) (q : Register) (pairs : List (ℕ × ℕ)) →
    IsReadable s → q.frame.start ≡ length s.frames → length more ≡ q.frame.count → length more ≡ length r.slots.items →
    IsReadable (with_row s more (s.count + new_names r.slots.items) q pairs)
with_row-readable s r more q pairs w f g h =
    let longer = length-append s.frames more in
    let grown : (k : Frame) → IsIn s.frames k → IsIn (s.frames ++ more) k = λ k l. omega (arith, l, longer) in
    record {
      root = grown s.root.names.frame w.root;
      registers = All-push (λ (k : Register). IsIn (s.frames ++ more) k.frame) s.registers q
          (All-weaker (λ (k : Register). IsIn s.frames k.frame) (λ k. IsIn (s.frames ++ more) k.frame) (λ k. grown k.frame) s.registers w.registers)
          (omega (arith, longer, f, g));
      values = All-weaker (λ (v : View). IsIn s.frames v.names.frame) (λ v. IsIn (s.frames ++ more) v.names.frame) (λ v. grown v.names.frame) s.values w.values;
      names = omega (arith, w.names, longer, new_names-le r.slots.items, h);
    }

-- what becomes of a row whose own names are paired, or are not
pub after_row-paired : (s : Scratch) (names : List ℕ) (r : IndexRow) (slots frames : List ℕ) (owns : Bor (List ℕ)) (f : Frame) (o : Option (List (ℕ × ℕ))) →
    frames ≡ s.frames ++ names_for names r.slots.items s.count → owns.now ≡ r.owns.items → f.start ≡ length s.frames → f.count ≡ length r.slots.items →
    paired_all (reverse s.pairs) (names_at frames (record { numbers = Some owns; frame = f })) slots ≡ o →
    after_row (state_of s) names r slots ≡ option_map (entered (state_of s) (names_for names r.slots.items s.count) r) o
after_row-paired s names r slots frames owns f o e h g l p =
    let more = names_for names r.slots.items s.count in
    let last = ap (λ ns. names_of ns f) e ∙ names_of-last s.frames more f g (length-names_for names r.slots.items s.count ∙ sym l) in
    ap (option_map (entered (state_of s) more r)) (sym (λ i. paired_all (reverse s.pairs) (named (last i) (h i)) slots) ∙ p)

-- a class under names of its slots
abbrev pub at_start : List ClassRows → ℕ → ℕ → List ℕ → Scratch
at_start classes class count frames = record {
  classes = classes;
  root = record { class = class; names = record { numbers = None; frame = record { start = 0; count = count } } };
  registers = [];
  frames = frames;
  pairs = [];
  values = [];
  count = count;
}

pub at_start-state : (classes : List ClassRows) (class count : ℕ) (frames : List ℕ) → count ≡ slot_count_in classes class → frames ≡ range_with_len 0 count →
    state_of (at_start classes class count frames) ≡ started classes class
at_start-state classes class count frames e f =
    let all = take_all count (range_with_len 0 count) (omega (arith, length-range_with_len 0 count)) in
    let own = ap (take count) f ∙ (all ∙ ap (range_with_len 0) e) in
    λ i. record { registers = (record { class = class; names = own i } ∷ []) ∷ []; pairs = []; values = []; count = e i }

pub at_start-readable : (classes : List ClassRows) (class count : ℕ) (frames : List ℕ) → frames ≡ range_with_len 0 count → IsReadable (at_start classes class count frames)
at_start-readable classes class count frames f =
    let n = ap length f ∙ length-range_with_len 0 count in
    record {
      root = omega (arith, n);
      registers = λ k d h. absurd (omega arith);
      values = λ k d h. absurd (omega arith);
      names = omega (arith, n);
    }

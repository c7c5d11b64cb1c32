-- What the machine holds as it runs, and the state of the meaning that it stands for.
--     GrowsTo             the second list begins with the first
--     Scratch             the lists of the machine, and the index that it searches
--     scratch_of          what a machine holds
--     state_of            the state that it stands for
--     IsReadable          each frame that is read is one of those that were given, and so is each name
--     mark_of, cut_to     how long the lists are, and the lists cut to these lengths
--     Extends             each list of the second begins with that of the first, and the rest is the same
use Rattle.std.specs.Prelude.{◌≡◌, ℕ, ◌≤◌, List, [], ◌∷◌, take, length, map, reverse}
use Rattle.std.specs.List.{All}
use Rattle.slotted_match_machine.specs.Machine.{MachineState}
use Rattle.slotted_match_machine.specs.Views.{IsIn, occurrence_of, occurrences_in}
use Rattle.slotted_match_machine.specs.declared.index.ClassRows.{ClassRows}
use Rattle.slotted_match_machine.specs.declared.machine.Machine.{Machine}
use Rattle.slotted_match_machine.specs.declared.machine.Mark.{Mark}
use Rattle.slotted_match_machine.specs.declared.view.View.{View}
use Rattle.slotted_match_machine.specs.declared.view.Register.{Register}

abbrev pub GrowsTo : {X : Type 0} → List X → List X → Type 0
GrowsTo old new = take (length old) new ≡ old

pub record Scratch : Type 0 where
  pub classes : List ClassRows
  pub root : View
  pub registers : List Register
  pub frames : List ℕ
  pub pairs : List (ℕ × ℕ)
  pub values : List View
  pub count : ℕ

abbrev pub scratch_of : Machine → Scratch
scratch_of m = record {
  classes = m.index.now.classes.items;
  root = m.root;
  registers = m.registers.items;
  frames = m.frames.items;
  pairs = m.pairs.items;
  values = m.values.items;
  count = m.count;
}

-- pairs stand in the order in which they were made
abbrev pub state_of : Scratch → MachineState
state_of s = record {
  registers = (occurrence_of s.frames s.root ∷ []) ∷ map (occurrences_in s.frames) s.registers;
  pairs = reverse s.pairs;
  values = map (occurrence_of s.frames) s.values;
  count = s.count;
}

pub record IsReadable (s : Scratch) : Type 0 where
  pub root : IsIn s.frames s.root.names.frame
  pub registers : All (λ r. IsIn s.frames r.frame) s.registers
  pub values : All (λ v. IsIn s.frames v.names.frame) s.values
  pub names : s.count ≤ length s.frames

-- how long the lists are that grow
abbrev pub mark_of : Scratch → Mark
mark_of s = record {
  registers = length s.registers;
  frames = length s.frames;
  pairs = length s.pairs;
  values = length s.values;
  count = s.count;
}

abbrev pub cut_to : Mark → Scratch → Scratch
cut_to mark s = record s {
  registers = take mark.registers s.registers;
  frames = take mark.frames s.frames;
  pairs = take mark.pairs s.pairs;
  values = take mark.values s.values;
  count = mark.count;
}

abbrev pub Extends : Scratch → Scratch → Type 0
Extends old new = cut_to (mark_of old) new ≡ old

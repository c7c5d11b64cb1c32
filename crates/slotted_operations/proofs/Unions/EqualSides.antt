-- A union by the equation of two full ids that find alike changes nothing, and leaves nothing to rebuild.
use Rattle.std.proofs.Common.{◌≡◌, ℕ, [], refl, sym, ap, subst, arith}
use Rattle.std.proofs.lemmas.List.{append-nil}
use Rattle.slotted_model.specs.Applied.{Applied}
use Rattle.slotted_model.specs.Changes.{found_entry, finds_alike}
use Rattle.slotted_model.specs.Classes.{IsFull}
use Rattle.slotted_model.specs.Find.{find}
use Rattle.slotted_model.specs.Link.{found_equation}
use Rattle.slotted_model.specs.Rebuild.{starts}
use Rattle.slotted_proofs.specs.Entries.{Proven}
use Rattle.slotted_classes.specs.Kept.{Kept, nodes_of, entries_of}
use Rattle.slotted_hashcons.specs.FiledRows.{Rows}
use Rattle.slotted_classes.specs.StateOf.{state_of}
use Rattle.slotted_rebuilding.specs.Grows.{Grows}
use Rattle.slotted_rebuilding.specs.Uniting.{SaysNothing}
use Rattle.slotted_rebuilding.proofs.AlikeSides.{alike-identity}
use Rattle.slotted_hashcons.specs.WellFiled.{IsWellFiled}
use Rattle.slotted_rebuilding.specs.Filed.{UnitesFiled}
use Rattle.slotted_rebuilding.specs.Turns.{Rebuilds}
use Rattle.slotted_rebuilding.proofs.Rebuilds.{all-noted}
use Rattle.slotted_operations.specs.Good.{with_rest_noted}
use Rattle.slotted_operations.proofs.Unions.Assertions.{IsAsserted}

itself : (m : Kept) → Grows m m
itself m = record {
  nodes = refl;
  forms = λ i. refl;
  rows = refl;
  more = [];
  proofs = sym (append-nil m.proofs);
  listed = [];
  symmetries = sym (append-nil m.symmetries);
  gone = [];
  deaths = sym (append-nil m.deaths);
  counts = refl;
}

module _ (k m : Kept) (x : Proven) (a b : Applied) (p : ℕ) (said : IsAsserted k m x a b p) where
  module _ (fa : IsFull (nodes_of k) a) (fb : IsFull (nodes_of k) b) (alike : find (entries_of k) a ≡ find (entries_of k) b) where
    nothing : SaysNothing m (found_entry (state_of m) p)
    nothing =
        let on_a : IsFull (nodes_of m) a = subst (λ nodes. IsFull nodes a) (sym said.grows.nodes) fa in
        let on_b : IsFull (nodes_of m) b = subst (λ nodes. IsFull nodes b) (sym said.grows.nodes) fb in
        let same : find (entries_of m) a ≡ find (entries_of m) b = subst (λ found. find found a ≡ find found b) (sym said.found) alike in
        subst (λ q. SaysNothing m (found_equation (nodes_of m) (entries_of m) q)) (sym said.stands.1)
        (ap (λ (y : Applied). y.0) same, alike-identity (nodes_of m) (entries_of m) said.stored.sane.sound.linked a b on_a on_b same)

    pub alike-unites : (r : Rows) → UnitesFiled p m r m r
    alike-unites r = record {
      unites = finds_alike nothing.0 nothing.1;
      by = record { unites = finds_alike nothing.0 nothing.1; stored = said.stored; grows = itself m };
      waits = record { same = refl; more = []; waits = sym (append-nil r.waiting) };
    }

  pub alike-rebuilds : (r : Rows) → IsWellFiled m r → r.waiting ≡ [] → (z : Kept) → z ≡ with_rest_noted m r → Rebuilds m r z r 0
  alike-rebuilds r filed quiet z is =
      all-noted m r m r 0 filed (record {
        so_far = record { turns = 0; at_least = omega arith; runs = starts; filed = filed; grows = itself m; settled = said.settled };
        nothing_left = (quiet, said.stored.settled said.settled);
      }) z is

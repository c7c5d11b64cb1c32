-- What is kept with its filed nodes, from step to step.
use Rattle.std.proofs.Common.{◌≡◌, ℕ, ◌<◌, ◌≤◌, List, [], ◌++◌, Some, length, refl, ap, ◌∙◌, sym, subst, append_assoc}
use Rattle.std.proofs.lemmas.List.{append-nil}
use Rattle.std.specs.Prelude.{slice_get}
use Rattle.slotted_lists.proofs.Lists.{slice_get-append_left}
use Rattle.slotted_model.specs.Changes.{HasUnited}
use Rattle.slotted_model.specs.State.{HasTouched}
use Rattle.slotted_model.proofs.Rebuilding.Unions.{unites}
use Rattle.slotted_classes.specs.Kept.{Kept, node_at}
use Rattle.slotted_classes.proofs.KeptLists.{length-proofs_of}
use Rattle.slotted_hashcons.specs.Filed.{filed_of}
use Rattle.slotted_hashcons.specs.FiledRows.{Rows, WaitsOn, rows_in, rows_state}
use Rattle.slotted_languages.specs.Shape.{Fits}
use Rattle.slotted_nodes.specs.Form.{Form}
use Rattle.slotted_hashcons.specs.FoundNodes.{HasNoMorePlaces}
use Rattle.slotted_classes.specs.StateOf.{state_with}
use Rattle.slotted_rebuilding.specs.Grows.{Grows}
use Rattle.slotted_rebuilding.proofs.GrownRows.{grown-rows, grown-count}
use Rattle.slotted_hashcons.specs.WellFiled.{state_in, IsWellFiled}
use Rattle.slotted_rebuilding.specs.Filed.{UnitesFiled}
use Rattle.slotted_rebuilding.specs.Turns.{IsFirst}

-- which classes wait is told by the rows alone
pub touched-in : (k : Kept) (r : Rows) (c : ℕ) (w : List ℕ) → HasTouched (rows_state r) c w → HasTouched (state_in k r) c w
touched-in k r c w t = record { once = t.once; kept = t.kept; over = t.over; from = t.from }

-- where nothing is filed anew, the rows are the same
pub same-rows : (k : Kept) (r q : Rows) → WaitsOn r q → state_in k q ≡ state_with k (rows_in r.filed) q.waiting
same-rows k r q w = ap (λ v. state_with k (rows_in v) q.waiting) w.same

pub waits-nothing : (r : Rows) → WaitsOn r r
waits-nothing r = record { same = refl; more = []; waits = sym (append-nil r.waiting) }

pub waits-then : (r q s : Rows) → WaitsOn r q → WaitsOn q s → WaitsOn r s
waits-then r q s a b = record {
  same = b.same ∙ a.same;
  more = a.more ++ b.more;
  waits = b.waits ∙ (ap (λ w. w ++ b.more) a.waits ∙ append_assoc r.waiting a.more b.more);
}

-- who is first stays first
pub first-still : (r q : Rows) (o : ℕ) → WaitsOn r q → IsFirst r o → IsFirst q o
first-still r q o w f = subst (λ x. slice_get x 0 ≡ Some o) (sym w.waits) (slice_get-append_left r.waiting w.more 0 o f)

-- canonical nodes have a name for each of their places, also in what has grown
pub fits-grown : (k l : Kept) → Grows k l → ((i : ℕ) → i < length k.classes → Fits (node_at k i)) → (i : ℕ) → i < length l.classes → Fits (node_at l i)
fits-grown k l grows fits i h = subst Fits (sym (grows.forms i)) (fits i (subst (λ n. i < n) (grown-count k l grows) h))

pub places-grown : (k l : Kept) → Grows k l → (i : ℕ) (f : Form) → HasNoMorePlaces k i f → HasNoMorePlaces l i f
places-grown k l grows i f = subst (λ (c : Form). length f.names ≤ length c.names) (sym (grows.forms i))

-- what a union leaves is well filed
pub united-well : (p : ℕ) (k : Kept) (r : Rows) (l : Kept) (q : Rows) → IsWellFiled k r → p < length k.proofs → UnitesFiled p k r l q → IsWellFiled l q
united-well p k r l q well within u =
    let h : HasUnited p (state_in k r) (state_in l q) = unites p u.unites well.sane (subst (λ n. p < n) (sym (length-proofs_of k)) within) in
    record {
      stored = u.by.stored;
      canonical = grown-rows k l u.by.grows well.canonical;
      fits = fits-grown k l u.by.grows well.fits;
      count = ap length u.waits.same ∙ (well.count ∙ sym (grown-count k l u.by.grows));
      sane = h.sane;
      keyed = λ i e f. well.keyed i e (subst (λ v. filed_of v i ≡ Some e) u.waits.same f);
      places = λ i e f. places-grown k l u.by.grows i e.0 (well.places i e (subst (λ v. filed_of v i ≡ Some e) u.waits.same f));
    }

-- What a new find entry of one class leaves of what is kept, and so a link, and a drop of slots.
use Rattle.std.proofs.Common.{◌≡◌, ◌≢◌, ℕ, suc, ◌<◌, List, [], ◌∷◌, ◌++◌, length, set, sym, ◌∙◌, refl, subst, inl, arith}
use Rattle.std.specs.Prelude.{Contains, Bool, false, map}
use Rattle.std.proofs.lemmas.List.{append-nil}
use Rattle.slotted_model.specs.Applied.{Applied}
use Rattle.slotted_model.specs.Changes.{GoesOn, PairsAll, StandsAt}
use Rattle.slotted_model.specs.Classes.{canonical_slots}
use Rattle.slotted_model.specs.Correspondence.{turned}
use Rattle.slotted_model.specs.Find.{Entry}
use Rattle.slotted_model.specs.Link.{CanLink, IsLater}
use Rattle.slotted_model.specs.ProofList.{Equation}
use Rattle.slotted_model.specs.Rest.{Sane, IsAligned}
use Rattle.slotted_model.specs.State.{State, Symmetry, HasTouched}
use Rattle.slotted_model.proofs.Rebuilding.Aligned.{link-aligned}
use Rattle.slotted_model.proofs.Rebuilding.Events.{link-sane, link-goes_on}
use Rattle.slotted_model.proofs.Finds.Linking.{link-later}
use Rattle.slotted_proofs.specs.Proving.{IsProved}
use Rattle.slotted_classes.specs.Kept.{Kept, nodes_of, entries_of, proofs_of, with_linked}
use Rattle.slotted_classes.proofs.Writes.{written, written-nodes, written-entries, written-form}
use Rattle.slotted_classes.specs.StateOf.{state_of, symmetry_of_entry}
use Rattle.slotted_classes.specs.Stored.{Stored}
use Rattle.slotted_rebuilding.specs.Grows.{Grows}
use Rattle.slotted_rebuilding.specs.Uniting.{IsOfLive, HasLinked, equation_in, heir_in}
use Rattle.slotted_rebuilding.proofs.EnteredProofs.{stored-over, stands-at}

-- without rows nothing waits for a class
pub untouched : (k : Kept) (c : ℕ) → HasTouched (state_of k) c []
untouched k c = record {
  once = tt;
  kept = λ o h. h;
  over = λ r h n. let l : h.0 < 0 = h.1 in absurd (omega arith);
  from = λ o h. inl h;
}

-- the class i gets the entry x
module _ (k : Kept) (good : Stored k) (i : ℕ) (x : Entry) (dropped : Bool) (moment : ℕ) (deaths : List ℕ) where
  abbrev pub changed : Kept
  changed = record {
    classes = written k i x;
    rows = k.rows;
    symmetries = k.symmetries;
    dropped = dropped;
    proofs = k.proofs;
    moment = moment;
    deaths = deaths;
    counts = k.counts;
  }

  abbrev pub changed_state : State
  changed_state = record (state_of k) { found = set (entries_of k) i x; waiting = [] }

  pub changed-state : state_of changed ≡ changed_state
  changed-state j = record {
    nodes = written-nodes k i x j;
    found = written-entries k i x j;
    proofs = proofs_of k;
    rows = [];
    waiting = [];
    symmetries = map symmetry_of_entry k.symmetries;
  }

  pub changed-grows : (gone : List ℕ) → deaths ≡ k.deaths ++ gone → Grows k changed
  changed-grows gone died = record {
    nodes = written-nodes k i x;
    forms = written-form k i x;
    rows = refl;
    more = [];
    proofs = sym (append-nil k.proofs);
    listed = [];
    symmetries = sym (append-nil k.symmetries);
    gone = gone;
    deaths = died;
    counts = refl;
  }

  pub changed-stored : Sane changed_state → GoesOn (state_of k) changed_state → IsLater changed_state.found moment →
      (dropped ≡ false → (y : Symmetry) → Contains changed_state.symmetries y → IsAligned changed_state y) → Stored changed
  changed-stored sane on later settled =
      let back : changed_state ≡ state_of changed = sym changed-state in
      let goes : GoesOn (state_of k) (state_of changed) = subst (GoesOn (state_of k)) back on in
      record {
        sane = subst Sane back sane;
        proved = subst (λ (g : State). IsProved g.nodes k.proofs) back good.proved;
        later = subst (λ (g : State). IsLater g.found moment) back later;
        sides = λ y c. record {
          left = (goes.finds y.0.0 (good.sides y c).left).0;
          right = (goes.finds y.0.1 (good.sides y c).right).0;
          class = (good.sides y c).class;
          slots = (good.sides y c).slots;
          left_known = (good.sides y c).left_known;
          right_known = (good.sides y c).right_known;
        };
        once = good.once;
        settled = λ d y c. subst (λ (g : State). IsAligned g y) back (settled d y c);
      }

module _ (k : Kept) (good : Stored k) (q : ℕ) (within : q < length k.proofs) (live : IsOfLive k (equation_in k q)) where
  abbrev e : Equation
  e = equation_in k q

  abbrev g : State
  g = state_of k

  at : StandsAt g q e
  at = stands-at k e q within refl

  -- the left class leads to the right one
  module _ (different : e.left ≢ e.right) (all : PairsAll g e) where
    abbrev x : Entry
    x = record { class = e.right; pairs = turned (canonical_slots (nodes_of k) e.right) e.pairs; proof = q; died = k.moment }

    can : CanLink g.nodes g.found e
    can = record {
      over = stored-over k good q within;
      left_lives = live.left_lives;
      right_lives = live.right_lives;
      different = different;
      from = live.left;
      onto = all.right;
    }

    link-left : HasLinked k (with_linked k e.left e.right x.pairs q) e q
    link-left = record {
      state = changed-state k good e.left x k.dropped (suc k.moment) (k.deaths ++ e.left ∷ []);
      stored = changed-stored k good e.left x k.dropped (suc k.moment) (k.deaths ++ e.left ∷ [])
          (link-sane g good.sane e q k.moment can good.later at.0 at.1 [] (untouched k e.left))
          (link-goes_on g good.sane e q k.moment can good.later at.0 at.1 [] (untouched k e.left))
          (link-later g.nodes g.found good.sane.sound.linked e q k.moment can good.later)
          (λ d y c.
          link-aligned g good.sane e q k.moment can good.later at.0 at.1 [] (untouched k e.left) all.left live.right
          y (good.sane.each_listed y c) (good.settled d y c));
      grows = changed-grows k good e.left x k.dropped (suc k.moment) (k.deaths ++ e.left ∷ []) (e.left ∷ []) refl;
    }

    -- by the code's words
    pub linked-left : (i : ℕ) → i ≡ e.left → (a : Applied) → a ≡ heir_in k e →
        (l : Kept) → l ≡ with_linked k i a.0 a.1 q → HasLinked k l e q
    linked-left i ei a ea l el =
        subst (λ (z : Kept). HasLinked k z e q) (sym (el ∙ (λ j. with_linked k (ei j) (ea j).0 (ea j).1 q))) link-left

-- Data at rest, for callers: the graph without classes, a graph in which nothing was done, and one that goes on.
use Rattle.std.proofs.Common.{◌≡◌, ℕ, List, [], ◌++◌, sym, refl, subst, arith, append-nil, inl}
use Rattle.slotted_lists.proofs.Contained.{Contains-nil}
use Rattle.slotted_model.specs.Changes.{GoesOn}
use Rattle.slotted_model.specs.Rest.{AtRest}
use Rattle.slotted_model.proofs.Rebuilding.Asserting.{nothing-rests}
use Rattle.slotted_model.proofs.Rebuilding.GoingOn.{goes_on-same}
use Rattle.slotted_model_analyses.specs.Analysis.{Analysis}
use Rattle.slotted_model_analyses.proofs.Writing.{nothing-rests-with}
use Rattle.slotted_proofs.specs.Entries.{Proven}
use Rattle.slotted_classes.specs.Kept.{Kept, nothing, with_proofs}
use Rattle.slotted_hashcons.specs.FiledRows.{Rows, no_rows}
use Rattle.slotted_hashcons.specs.WellFiled.{state_in}
use Rattle.slotted_data.specs.Held.{Held, no_values, with_none_changed}
use Rattle.slotted_data.specs.Made.{data_in}
use Rattle.slotted_data.specs.Carrying.{DataRests, RestedBefore}

module _ {D : Type 0} (a : Analysis D) where
  -- the graph without classes is at rest with the data of none
  pub nothing-rests-data : DataRests a nothing no_rows no_values
  nothing-rests-data = record {
    rest = nothing-rests;
    count = refl;
    has = λ x. (nothing-rests-with a (data_in x [])).has;
    users = record {
      cover = λ o c h. absurd (omega arith);
      only = λ c o h. absurd (Contains-nil o h);
      within = λ c o h. absurd (Contains-nil o h);
    };
    all = λ h. absurd cc;
    low = λ _. (refl, λ i h. absurd (omega arith));
    carried = refl;
    dead = λ i. (λ h. absurd (Contains-nil i h), λ h. let l = h.0 in absurd (omega (arith, l)));
    counts = record {
      turns = omega arith;
      falls = omega arith;
      after = refl;
      totals = record { turns_end = omega arith; bound_end = omega arith; total = inl (omega arith) };
    };
    still = λ _. refl;
    high = λ h. absurd cc;
  }

  -- a graph at rest, and one that goes on from it
  pub rested-before : (k : Kept) (r : Rows) (l : Kept) (q : Rows) (d : Held D) (more : List ℕ) → DataRests a k r d → GoesOn (state_in k r) (state_in l q) →
      l.deaths ≡ k.deaths ++ more → RestedBefore a k r l q d
  rested-before k r l q d more rests goes deaths = record { rested = rests; goes_on = goes; more = more; deaths = deaths }

  -- and the same one
  pub rested-itself : (k : Kept) (r : Rows) (d : Held D) → DataRests a k r d → RestedBefore a k r k r d
  rested-itself k r d rests = rested-before k r k r d [] rests (goes_on-same (state_in k r) rests.rest.sane.sound.linked) (sym (append-nil k.deaths))

  -- more proofs change no data
  pub rests-proved : (k l : Kept) (ps : List Proven) (r : Rows) (d : Held D) → l ≡ with_proofs k ps → AtRest (state_in l r) → DataRests a k r d → DataRests a l r d
  rests-proved k l ps r d is rest rests = subst (λ m. AtRest (state_in m r) → DataRests a m r d) (sym is) (λ now. record {
    rest = now;
    count = rests.count;
    has = λ x. let h = rests.has x in record {
      waits_once = h.waits_once;
      waits_whole = h.waits_whole;
      waits_for_row = h.waits_for_row;
      absorbs_made = h.absorbs_made;
      changed_once = h.changed_once;
      changed_in_range = h.changed_in_range;
    };
    users = record { cover = rests.users.cover; only = rests.users.only; within = rests.users.within };
    all = rests.all;
    low = rests.low;
    carried = rests.carried;
    dead = rests.dead;
    counts = rests.counts;
    still = rests.still;
    high = rests.high;
  }) rest

  -- the classes that waited to be modified wait no more
  pub rests-taken : (k : Kept) (r : Rows) (d : Held D) → DataRests a k r d → DataRests a k r (with_none_changed d)
  rests-taken k r d rests = record {
    rest = rests.rest;
    count = rests.count;
    has = λ x. let h = rests.has x in record {
      waits_once = h.waits_once;
      waits_whole = h.waits_whole;
      waits_for_row = h.waits_for_row;
      absorbs_made = h.absorbs_made;
      changed_once = tt;
      changed_in_range = λ i c. absurd (Contains-nil i c);
    };
    users = record { cover = rests.users.cover; only = rests.users.only; within = rests.users.within };
    all = rests.all;
    low = rests.low;
    carried = rests.carried;
    dead = rests.dead;
    counts = rests.counts;
    still = rests.still;
    high = rests.high;
  }

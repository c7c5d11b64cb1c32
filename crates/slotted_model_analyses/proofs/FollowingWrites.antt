-- Data can go along with each write: with the same run, in the graph that it ends with.
use Rattle.std.proofs.Common.{◌≡◌, ℕ, suc, ◌<◌, List, length, refl, subst, arith}
use Rattle.slotted_theory.specs.Nameless.{DTerm}
use Rattle.slotted_model.specs.Applied.{Applied}
use Rattle.slotted_model.specs.Classes.{IsFull}
use Rattle.slotted_model.specs.Growth.{IsNew}
use Rattle.slotted_model.specs.ProofList.{ProofEntry, explicit, equation_of}
use Rattle.slotted_model.specs.State.{State}
use Rattle.slotted_model.specs.Rest.{Sane, AtRest}
use Rattle.slotted_model.specs.Changes.{HasUnited, with_proofs}
use Rattle.slotted_model.specs.Rebuild.{Runs, HasNothingLeft}
use Rattle.slotted_model.specs.Rebuild as plain
use Rattle.slotted_model.specs.Adding.{with_new_class, with_new_row, with_assertion, Adds, Asserts}
use Rattle.slotted_model.specs.Adding as write
use Rattle.slotted_model.proofs.Rebuilding.Adding.{class-sane, filed-ready, adds}
use Rattle.slotted_model.proofs.Rebuilding.Asserting.{entry-sane, can_assert, asserts}
use Rattle.slotted_model.proofs.Finds.Entering.{longer-length}
use Rattle.slotted_model.proofs.Rebuilding.GrowingLists.{proofs-sane}
use Rattle.slotted_model.proofs.Rebuilding.Touching.{with_waiting}
use Rattle.slotted_model.proofs.Rebuilding.Unions.{unites}
use Rattle.slotted_model_analyses.specs.Analysis.{Analysis, IsMerge}
use Rattle.slotted_model_analyses.specs.DataPart.{DataPart, RunsWithData, starts, takes_turn, takes_act, HasData, HasNothingLeftWithData, RestsWithData}
use Rattle.slotted_model_analyses.specs.DataWrites.{with_new_data, with_new_pending, AddsWithData, joins_row, files_row, AssertsWithData, is_new, stands}
use Rattle.slotted_model_analyses.specs.Rounds.{AddsNodes, no_more, one_more}
use Rattle.slotted_model_analyses.specs.Steps.{AddsNodesWithData, none_more, then_one}
use Rattle.slotted_model_analyses.proofs.CarriedSteps.{nodes-carried}
use Rattle.slotted_model_analyses.proofs.Carrying.{HasCarried, has-proofs, carried}
use Rattle.slotted_model_analyses.proofs.Counts.{run-then, run-with}
use Rattle.slotted_model_analyses.proofs.Growing.{class-has, row-has}
use Rattle.slotted_model_analyses.proofs.Merging.{noted-is}
use Rattle.slotted_model_analyses.proofs.Reaching.{carry, follow, follow-act, DoneWithData, reaching}
use Rattle.slotted_model_analyses.proofs.Writing.{graph-stays}

module _ {D : Type 0} (a : Analysis D) (law : IsMerge D a) where
  -- along the turns and acts of a run
  run-followed : (f : State) → Sane f → (s : DataPart D) → HasData a f s → {n : ℕ} {h : State} → Runs f n h → (t : DataPart D) × RunsWithData a f s n h t
  run-followed f sane s has plain.starts = (s, starts)
  run-followed f sane s has (plain.takes_turn {g = g} r k) =
      let y = run-followed f sane s has r in
      let w = run-with a law f sane has y.1 in
      let z = follow a law k y.0 w.has.waits_once w.has.changed_once in
      (z.0, takes_turn y.1 k z.1)
  run-followed f sane s has (plain.takes_act {g = g} r k) =
      let y = run-followed f sane s has r in
      let w = run-with a law f sane has y.1 in
      let z = follow-act a law k y.0 w.has.waits_once w.has.changed_once in
      (z.0, takes_act y.1 k z.1)

  -- and on, by turns for data alone, until nothing waits: the graph stays
  abbrev Ended : State → DataPart D → State → Type 0
  Ended f s h = (n : ℕ) × (t : DataPart D) × RunsWithData a f s n h t × HasNothingLeftWithData h t

  run-ended : (f : State) → Sane f → (s : DataPart D) → HasData a f s → {n : ℕ} {h : State} → Runs f n h → AtRest h → Ended f s h
  run-ended f sane s has {n} {h} r rest =
      let y = run-followed f sane s has r in
      let w = run-with a law f sane has y.1 in
      let d : DoneWithData a law h rest.sane y.0 w.has = reaching a law h rest.sane y.0 w.has in
      let e : d.1 ≡ h = graph-stays a rest d.3 in
      let all = run-then a y.1 d.3 in
      subst (Ended f s) e (all.0, d.2, all.2, d.4)

  -- a class is made
  pub adding-followed : (g : State) (s : DataPart D) → RestsWithData a g s → (h : State) (c : DTerm) → IsNew g.nodes c → Adds g c h → (t : DataPart D) × AddsWithData a g s c h t
  adding-followed g s x h c new (write.joins_row {f = f} proofs p r grow there same congruence u run left) =
      let noted = noted-is (length g.nodes) s.changed x.has.changed_once in
      let changed : List ℕ = with_waiting (length g.nodes) s.changed in
      let d : DataPart D = with_new_data a g s c changed in
      let n : State = with_new_class g c in
      let ready : State = with_proofs n proofs in
      let sane : Sane ready = proofs-sane n (class-sane g x.rest.sane c new) proofs grow in
      let w : HasUnited p ready f = unites p u sane congruence.stands.0 in
      let has : HasData a ready d = has-proofs a law n d (class-has a g x.rest.sane s c new changed noted x.has) ready refl refl refl refl in
      let m = carry a law p u d has.waits_once has.changed_once in
      let k : HasCarried a law ready d f m.0 = carried a law p u sane congruence.stands.0 d m.0 has m.1 in
      let rest : AtRest h = (adds g x.rest c new h (write.joins_row proofs p r grow there same congruence u run left)).rest in
      let z = run-ended f w.sane m.0 k.has run rest in
      (z.1, joins_row {n = z.0} {f = f} {h = h} {m = m.0} {t = z.1} changed proofs p r noted grow there same congruence u m.1 z.2 z.3)
  adding-followed g s x h c new (write.files_row alone run left) =
      let noted = noted-is (length g.nodes) s.changed x.has.changed_once in
      let changed : List ℕ = with_waiting (length g.nodes) s.changed in
      let f : State = with_new_row (with_new_class g c) (length g.nodes) in
      let sane : Sane f = (filed-ready g x.rest.sane c new x.rest.represents alone).0 in
      let has : HasData a f (with_new_pending a g s c changed) = row-has a g x.rest.sane s c new changed noted x.has in
      let rest : AtRest h = (adds g x.rest c new h (write.files_row alone run left)).rest in
      let z = run-ended f sane (with_new_pending a g s c changed) has run rest in
      (z.1, files_row changed noted alone z.2 z.3)

  -- classes are made, one after another
  pub nodes-followed : {g : State} {s : DataPart D} {h : State} → RestsWithData a g s → AddsNodes g h → (t : DataPart D) × AddsNodesWithData a g s h t
  nodes-followed {g} {s} x no_more = (s, none_more)
  nodes-followed {g} {s} x (one_more {h = h} {k = k} c r new add) =
      let y = nodes-followed x r in
      let z = adding-followed h y.0 (nodes-carried a law x y.1).carries.rests k c new add in
      (z.0, then_one c y.1 new z.1)

  -- ids are asserted to be equal
  pub asserting-followed : (g : State) (s : DataPart D) → RestsWithData a g s → (h : State) (y z : Applied) → IsFull g.nodes y → IsFull g.nodes z → Asserts g y z h → (t : DataPart D) × AssertsWithData a g s y z h t
  asserting-followed g s x h y z fy fz (write.is_new {f = f} new u run left) =
      let entry : ProofEntry = record { equation = equation_of y z; step = explicit } in
      let q : State = with_assertion g (equation_of y z) in
      let sane : Sane q = entry-sane g x.rest.sane entry (can_assert g y z fy fz new) in
      let e : length q.proofs ≡ suc (length g.proofs) = longer-length g.proofs entry in
      let l : length g.proofs < length q.proofs = omega arith in
      let has : HasData a q s = has-proofs a law g s x.has q refl refl refl refl in
      let m = carry a law (length g.proofs) u s x.has.waits_once x.has.changed_once in
      let k : HasCarried a law q s f m.0 = carried a law (length g.proofs) u sane l s m.0 has m.1 in
      let w : HasUnited (length g.proofs) q f = unites (length g.proofs) u sane l in
      let rest : AtRest h = (asserts g x.rest y z fy fz h (write.is_new new u run left)).rest in
      let d = run-ended f w.sane m.0 k.has run rest in
      (d.1, is_new new u m.1 d.2 d.3)
  asserting-followed g s x h y z fy fz (write.stands {f = f} p at u run left) =
      let m = carry a law p u s x.has.waits_once x.has.changed_once in
      let k : HasCarried a law g s f m.0 = carried a law p u x.rest.sane at.0 s m.0 x.has m.1 in
      let w : HasUnited p g f = unites p u x.rest.sane at.0 in
      let rest : AtRest h = (asserts g x.rest y z fy fz h (write.stands p at u run left)).rest in
      let d = run-ended f w.sane m.0 k.has run rest in
      (d.1, stands p at u m.1 d.2 d.3)

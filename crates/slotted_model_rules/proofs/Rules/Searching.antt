-- What the search of a rule finds: substitutions that are looked up, and where no slot was dropped all of them.
use Rattle.std.proofs.Common.{◌≡◌, ℕ, List, Some, subst}
use Rattle.std.specs.Prelude.{Contains}
use Rattle.slotted_lists.proofs.Members.{In-Contains}
use Rattle.slotted_theory.specs.Renaming.{Bijection}
use Rattle.slotted_model.specs.Applied.{Applied, renamed_id}
use Rattle.slotted_model.specs.Find.{IsLive, find}
use Rattle.slotted_model.specs.State.{Row, State}
use Rattle.slotted_model.specs.Rest.{IsValidIn, AtRest}
use Rattle.slotted_model.proofs.Finds.Finding.{leads, found-live}
use Rattle.slotted_model_rules.specs.Patterns.{Pattern, EachVariable, look_up_pattern}
use Rattle.slotted_model_rules.specs.Matcher.{EachSlot, class_id}
use Rattle.slotted_model_rules.specs.Complete.{HasAllSlots, HasOwnBinders}
use Rattle.slotted_model_rules.specs.Conditions.{Values}
use Rattle.slotted_model_rules.specs.Rules.{valued, IsMatch, IsRead, Searches}
use Rattle.slotted_model_rules.proofs.Matching.Answering.{found-look_up, found-values}
use Rattle.slotted_model_rules.proofs.Matching.Completing.{finds-all}
use Rattle.slotted_model_rules.proofs.Patterns.LookingUp.{IsFoundId, looked-pattern}
use Rattle.slotted_model_rules.proofs.Matching.Readings.{EachSlot-map, slots-named, readings-renamed}
use Rattle.slotted_model_rules.proofs.Rules.Rewriting.{each-variable}

-- what is found is looked up as the class at which it was found
pub match-looked_up : (g : State) → AtRest g → (order : List Row) (p : Pattern) (s : Values) (m : IsMatch g order p s) → look_up_pattern g (λ y. y) (valued s) p ≡ Some (renamed_id m.names (find g.found (class_id g m.class)))
match-looked_up g rest order p s m = found-look_up g order rest m.names (valued s) p _ _ m.outs m.run m.out (In-Contains m.outs m.out m.is_out) m.reads

-- where no class has dropped a slot each substitution that is looked up is found, up to a renaming that leaves the pattern's slots
pub search-finds : (g : State) → AtRest g → HasAllSlots g → (order : List Row) → ((r : Row) → Contains g.rows r → Contains order r) → (p : Pattern) (found : List Values) → Searches g order p found →
    (σ : List ℕ → Applied) → EachVariable (λ v. IsValidIn g (σ v)) p → HasOwnBinders σ p → (x : Applied) → look_up_pattern g (λ y. y) σ p ≡ Some x →
    (s : Values) × Contains found s × (π : Bijection) × EachSlot (λ t. π.to t ≡ t) p × EachVariable (λ v. find g.found (valued s v) ≡ renamed_id π.to (find g.found (σ v))) p
search-finds g rest all order has p found runs σ valid own x e =
    let form : IsFoundId g x = (looked-pattern g rest σ (λ y. y) (λ y z q. q) p valid x e).0 in
    let live : IsLive g.found x.0 = subst (λ (a : Applied). IsLive g.found a.0) form.1 (found-live g.nodes g.found (leads g.nodes g.found rest.sane.sound.linked) x.0 form.0.in_range) in
    let r : IsRead g order p found x.0 = runs.runs x.0 form.0.in_range live in
    let o = finds-all g rest all order has σ p valid own x e r.outs r.run in
    let q = r.read o.0 o.1 in
    let π = readings-renamed g o.0 o.2 q.2 σ (valued q.0) o.3 q.3 in (
      q.0,
      q.1,
      π.0,
      EachSlot-map _ (λ t. π.0.to t ≡ t) (λ t k. π.1 k.0 t k.1) p (slots-named g order p _ _ r.outs r.run o.0 (In-Contains r.outs o.0 o.1)),
      each-variable (λ v. find g.found (valued q.0 v) ≡ renamed_id π.0.to (find g.found (σ v))) _ (λ v k. π.2 v k.0 k.1) p (found-values g order p _ _ r.outs r.run o.0 (In-Contains r.outs o.0 o.1)),
    )

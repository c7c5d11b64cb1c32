-- The proofs that a union by an entry may need can all be entered before it.
use Rattle.std.proofs.Common.{◌≡◌, ℕ, ◌<◌, List, ◌++◌, length, sym, ◌∙◌, refl}
use Rattle.slotted_theory.specs.Nameless.{DTerm}
use Rattle.slotted_model.specs.Classes.{canonical_slots}
use Rattle.slotted_model.specs.Explained.{Explained}
use Rattle.slotted_model.specs.Link.{kept_equation}
use Rattle.slotted_model.specs.ProofList.{Equation, ProofEntry, turned_equation, IsOver}
use Rattle.slotted_model.specs.State.{State}
use Rattle.slotted_model.specs.Rest.{Sane}
use Rattle.slotted_model.specs.Changes.{ProofsGrow, found_entry}
use Rattle.slotted_model.proofs.Correspondences.PartialInjections.{turned-partial, turned-turned}
use Rattle.slotted_model.proofs.Finds.Dropping.{kept-over, kept-step}
use Rattle.slotted_model.proofs.Finds.Explaining.{Stands, Grown, Reached, grown-then, grown-stands, enter_transitive, enter_turned, found_equation-explained}
use Rattle.slotted_model.proofs.Rebuilding.FoundEntries.{says-over}

-- an explained equation stands in a longer list
reached : (nodes : List DTerm) (proofs : List ProofEntry) (e : Equation) → Explained nodes proofs e → Reached nodes proofs e
reached nodes proofs e x = record {
  longer = proofs ++ x.more;
  grown = record { more = x.more; is = refl; proved = x.proved; asserts = x.asserts_nothing };
  stands = (x.number, x.in_range, x.equation);
}

-- the equation, it turned round, and what each of both says of its left class alone, stand in a list
pub record Prepared (nodes : List DTerm) (proofs : List ProofEntry) (e : Equation) : Type 0 where
  pub longer : List ProofEntry
  pub grow : ProofsGrow nodes proofs longer
  pub forth : Stands longer e
  pub back : Stands longer (turned_equation nodes e)
  pub kept_left : Stands longer (kept_equation e)
  pub kept_right : Stands longer (kept_equation (turned_equation nodes e))

prepared : (nodes : List DTerm) (proofs : List ProofEntry) (e : Equation) → IsOver nodes e → Reached nodes proofs e → Prepared nodes proofs e
prepared nodes proofs e o first =
    let P : List ℕ = canonical_slots nodes e.left in
    let Q : List ℕ = canonical_slots nodes e.right in
    let t : Equation = turned_equation nodes e in
    let ot : IsOver nodes t = record { left = o.right; right = o.left; pairs = turned-partial P Q e.pairs o.pairs } in
    let twice : e ≡ turned_equation nodes t = λ i. record { left = e.left; right = e.right; pairs = sym (turned-turned P Q e.pairs o.pairs) i } in
    let second : Reached nodes first.longer t = enter_turned nodes first.longer first.grown.proved e o first.stands in
    let e2 : Stands second.longer e = grown-stands nodes first.longer second.longer e second.grown first.stands in
    let third : Reached nodes second.longer (kept_equation e) =
    enter_transitive nodes second.longer second.grown.proved (kept_equation e) e t (kept-over nodes e o) (kept-step nodes e o) e2 second.stands in
    let e3 : Stands third.longer e = grown-stands nodes second.longer third.longer e third.grown e2 in
    let t3 : Stands third.longer t = grown-stands nodes second.longer third.longer t third.grown second.stands in
    let fourth : Reached nodes third.longer (kept_equation t) =
    enter_transitive nodes third.longer third.grown.proved (kept_equation t) t (turned_equation nodes t) (kept-over nodes t ot) (kept-step nodes t ot) t3 (e3.0, e3.1, e3.2 ∙ twice) in
    let two : Grown nodes first.longer third.longer = grown-then nodes first.longer second.longer third.longer second.grown third.grown in
    let three : Grown nodes first.longer fourth.longer = grown-then nodes first.longer third.longer fourth.longer two fourth.grown in
    let all : Grown nodes proofs fourth.longer = grown-then nodes proofs first.longer fourth.longer first.grown three in
    record {
      longer = fourth.longer;
      grow = record { more = all.more; is = all.is; proved = all.proved; asserts_nothing = all.asserts };
      forth = grown-stands nodes third.longer fourth.longer e fourth.grown e3;
      back = grown-stands nodes third.longer fourth.longer t fourth.grown t3;
      kept_left = grown-stands nodes third.longer fourth.longer (kept_equation e) fourth.grown third.stands;
      kept_right = fourth.stands;
    }

-- so all proofs that the union by an entry may need
pub prepare : (g : State) → Sane g → (p : ℕ) → p < length g.proofs → Prepared g.nodes g.proofs (found_entry g p)
prepare g sane p k =
    prepared g.nodes g.proofs (found_entry g p) (says-over g.nodes g.found sane.sound.linked _ (sane.sound.proved.over p k))
    (reached g.nodes g.proofs (found_entry g p) (found_equation-explained g.nodes g.found g.proofs sane.sound.linked sane.sound.proved sane.sound.exact p k))

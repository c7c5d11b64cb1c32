-- Names that an id lacks are filled by fresh ones, and the method is asked for the filled ids.
use Rattle.std.proofs.Common.{◌∙◌, ap, sym, inl, inr}
use Rattle.std.specs.Prelude.{◌⊎◌, IsTrue, List, ℕ, Result, Ok, Err, IfOk, IsErrAnd}
use Rattle.std.proofs.lemmas.Bool.{false≢true, le-ltb}
use Rattle.std.proofs.lemmas.List.Elements.{All-contains}
use Rattle.slotted_slots.specs.Error.{IsShortage}
use Rattle.slotted_slots.specs.declared.error.Error.{Error}
use Rattle.slotted_slots.specs.declared.types.AppliedId.{AppliedId}
use Rattle.slotted_slots.specs.Table.{KnowsMore, Table, is_known}
use Rattle.slotted_slots.proofs.TableLaws.{is_known-fresh_slot}
use Rattle.slotted_theory.specs.Nameless.{DTerm}
use Rattle.slotted_model.specs.Applied.{Applied}
use Rattle.slotted_model.specs.Filling.{IsFilling}
use Rattle.slotted_model.specs.Growth.{Extends}
use Rattle.slotted_proofs.specs.Equations.{to_applied}
use Rattle.slotted_graph.specs.Graph.{Graph, OnlyTakesSlots}
use Rattle.slotted_graph.specs.Image.{Image}
use Rattle.slotted_graph.specs.States.{IsGraph}
use Rattle.slotted_graph.specs.Syn.{FillsFresh}
use Rattle.slotted_graph.specs.Extension.{ExtendsTo}
use Rattle.slotted_graph.specs.ValidIds.{IsValidId}
use Rattle.slotted_graph.proofs.Extending.{extends-itself, extends-then, between-longer}
use Rattle.slotted_rules.specs.Building.{Grows, Builds}
use Rattle.slotted_rules.specs.Methods.{IsKnownMethod, Method, SubstitutesBy, AreRepresentatives}
use Rattle.slotted_rules.specs.Putting.{FillsUnknown, PutsFilled, PutsIn}
use Rattle.slotted_rules.proofs.Growing.{builds-takes, builds-then, extended-grows, grows-then}

-- filled ids are filled still
pub filling-later : (older newer : List DTerm) → Extends older newer → (given : List ℕ) (a b : Applied) → IsFilling older given a b → IsFilling newer given a b
filling-later older newer extends given a b f = record { class = f.class; full = extends.full b f.full; keeps = f.keeps; fresh = f.fresh }

-- what is filled by fresh slots is filled by none that was known
pub fills-unknown : (t u : Table) (g : Image) (newer : List DTerm) (o : Table) (a b : Applied) → KnowsMore o t → Extends g.canonical newer → FillsFresh g t u a b → FillsUnknown o newer a b
fills-unknown t u g newer o a b more extends f given known =
    filling-later g.canonical newer extends given a b (record {
      class = f.fills.class;
      full = f.fills.full;
      keeps = f.fills.keeps;
      fresh = λ s x c none has.
          let made = f.fresh s x c none in
          let unknown = ap (is_known t) made.is_slot ∙ (is_known-fresh_slot t made.index ∙ le-ltb made.index t.fresh made.unused) in
          false≢true (sym unknown ∙ more x (All-contains (λ s. IsTrue (is_known o s)) given x known has));
    })

-- what represents something in a stretch does so in a longer one
pub representatives-longer : (f g h i : Graph) (X : List (DTerm × DTerm)) → ExtendsTo f g → ExtendsTo h i → AreRepresentatives g h X → AreRepresentatives f i X
representatives-longer f g h i X d e are p c =
    let r = are p c in
    record {
      moment = r.moment;
      between = between-longer f g h i r.moment d e r.between;
      id = r.id;
      full = r.full;
      is = r.is;
      term = r.term;
      least = r.least;
      represents = r.represents;
    }

module _ (m : Method) (g e f i h : Graph) (b x t body part value : Applied) (is : IsGraph g) (first : OnlyTakesSlots g e) (second : OnlyTakesSlots e f) (third : OnlyTakesSlots f i) where
  to-second : Builds g e
  to-second = builds-takes g e is first

  to-third : Builds g f
  to-third = builds-then g e f to-second (builds-takes e f to-second.grows.graph second)

  pub to-filled : Builds g i
  to-filled = builds-then g f i to-third (builds-takes f i to-third.grows.graph third)

  module _ (body_fresh : FillsFresh g.image g.table e.table b body) (part_fresh : FillsFresh e.image e.table f.table x part) (value_fresh : FillsFresh f.image f.table i.table t value) where
    puts-filled : ExtendsTo i h → (a : Applied) → SubstitutesBy m i h body part value a → PutsFilled m g h b x t a
    puts-filled on a s =
        let all = extends-then g i h to-filled.grows.extends on in
        let from-e = extends-then e i h (extends-then e f i (builds-takes e f to-second.grows.graph second).grows.extends (builds-takes f i to-third.grows.graph third).grows.extends) on in
        let from-f = extends-then f i h (builds-takes f i to-third.grows.graph third).grows.extends on in
        record {
          body = body;
          part = part;
          value = value;
          body_fills = fills-unknown g.table e.table g.image h.image.canonical g.table b body (λ s k. k) all.canonical body_fresh;
          part_fills = fills-unknown e.table f.table e.image h.image.canonical g.table x part to-second.grows.extends.more from-e.canonical part_fresh;
          value_fills = fills-unknown f.table i.table f.image h.image.canonical g.table t value to-third.grows.extends.more from-f.canonical value_fresh;
          stands = record {
            full = s.full;
            asserts = s.asserts ∙ to-filled.asserts;
            pairs = s.pairs;
            are = representatives-longer g i h h s.pairs to-filled.grows.extends (extends-itself h) s.are;
            body = s.body;
            stands = s.stands;
            term = s.term;
          };
        }

    pub puts-in : (a : Applied) → IsTrue h.failed ⊎ Grows i h → (IsTrue h.failed → ⊥) → IsValidId h a → (IsKnownMethod m → SubstitutesBy m i h body part value a) → PutsIn m g h b x t a
    puts-in a (inl failed) well valid s = absurd (well failed)
    puts-in a (inr on) well valid s = record {
      grows = grows-then g i h to-filled.grows on;
      valid = valid;
      filled = λ k. puts-filled on.extends a (s k);
    }

    pub ok-put : (r : Result AppliedId Error) → IsTrue h.failed ⊎ IsGraph h → IsTrue h.failed ⊎ ExtendsTo i h → (IsTrue h.failed → IsErrAnd r IsShortage) →
        IfOk r (λ a. IsValidId h (to_applied a)) → IfOk r (λ a. IsKnownMethod m → SubstitutesBy m i h body part value (to_applied a)) → IfOk r (λ a. PutsIn m g h b x t (to_applied a))
    ok-put (Ok a) rests extends fails valid s = puts-in (to_applied a) (extended-grows i h rests extends) fails valid s
    ok-put (Err e) rests extends fails valid s = tt

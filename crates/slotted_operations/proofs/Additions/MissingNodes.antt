-- Where a node is not looked up, a class is made of it with its children filled: it is looked up then, and no other answer changes.
use Rattle.std.proofs.Common.{◌≡◌, ◌≤◌, ◌∙◌, ℕ, Option, Some, None, ap, refl, sym, subst, arith, inl, inr}
use Rattle.std.specs.Prelude.{is_some, option_map}
use Rattle.std.proofs.lemmas.Bool.{false≢true}
use Rattle.slotted_lists.proofs.Options.{Some-same}
use Rattle.slotted_theory.specs.Nameless.{DTerm}
use Rattle.slotted_theory.specs.Renaming.{Bijection}
use Rattle.slotted_theory.specs.Shape.{SameUpToNames}
use Rattle.slotted_theory.proofs.Bijections.{to-injective}
use Rattle.slotted_theory.proofs.Shapes.{shape_iff}
use Rattle.slotted_theory.proofs.Values.{node}
use Rattle.slotted_slots.specs.Table.{Table}
use Rattle.slotted_nodes.specs.Form.{Form}
use Rattle.slotted_languages.specs.NodeTerm.{nameless_node}
use Rattle.slotted_model.specs.Adding.{HasAdded, KeepsLookUps}
use Rattle.slotted_model.specs.Applied.{Applied, EachChild, renamed_id}
use Rattle.slotted_model.specs.Classes.{IsFull}
use Rattle.slotted_model.specs.Ids.{id_of_node}
use Rattle.slotted_model.specs.Normal.{normal}
use Rattle.slotted_model.specs.Rest.{AtRest, IsValidIn, LookedUp}
use Rattle.slotted_model.specs.State.{State, look_up_node, look_up_normal}
use Rattle.slotted_model.proofs.Finds.NormalIds.{full-is_valid}
use Rattle.slotted_model.proofs.Rebuilding.Adding as laws
use Rattle.slotted_model.proofs.Rebuilding.Adding.{normal_args-agree}
use Rattle.slotted_model.proofs.Represented.Children.{EachChild-map}
use Rattle.slotted_model.proofs.Represented.Ids.{id_of_node-some}
use Rattle.slotted_model.proofs.Rebuilding.KeepingTrees.{keeps-look_ups, keeps-then}
use Rattle.slotted_model.proofs.Data.Options.{None-Some, option_map-none}
use Rattle.slotted_model.proofs.Rebuilding.Rows.{look_up_node-moved, rest-nodes}
use Rattle.slotted_classes.specs.Finding.{IsFindable}
use Rattle.slotted_classes.specs.Kept.{Kept, entries_of, nodes_of}
use Rattle.slotted_hashcons.specs.FiledRows.{Rows}
use Rattle.slotted_hashcons.specs.WellFiled.{state_in}
use Rattle.slotted_operations.specs.Good.{Good, RestsWith, HasFreshSlots, AddsFilled, AddsFound, KeepsAnswers, MakesClassOf}
use Rattle.slotted_operations.specs.Graph.{HasNewClass, IsFreshBetween}
use Rattle.slotted_operations.proofs.Additions.NewClasses.{same-goes_on, adds-none}
use Rattle.slotted_operations.proofs.Graphs.Notes.{notes-none}
use Rattle.slotted_operations.proofs.Graphs.Finds.{full-findable}
use Rattle.slotted_operations.proofs.Additions.NodeAddition.{full_children}
use Rattle.slotted_operations.proofs.Graphs.AtRest.{at-rest}
use Rattle.slotted_model.proofs.Represented.Growing.{Extends-same}

-- slots that are new later are new
pub fresh-later : (t u v : Table) (s : ℕ) → t.fresh ≤ u.fresh → IsFreshBetween u v s → IsFreshBetween t v s
fresh-later t u v s l b = record { index = b.index; is_slot = b.is_slot; unused = omega (arith, l, b.unused); made = b.made }

module _ (k : Kept) (r : Rows) (good : Good k) (rests : RestsWith k r) where
  abbrev before : State
  before = state_in k r

  rest : AtRest before
  rest = at-rest k r good rests

  -- nothing changed
  pub keeps-none : KeepsAnswers k r k r
  keeps-none = record { finds = λ a v. refl; nodes = λ d c a e. e; trees = λ t a e. e }

  -- the node was looked up
  pub found-known : (t : Table) → HasFreshSlots t k → (f : Form) (a : Applied) → Some a ≡ look_up_node before (nameless_node f) → AddsFound t t k r k r f a
  found-known t fresh f a e = record {
    good = good;
    rests = rests;
    fresh_slots = fresh;
    extends = Extends-same (nodes_of k);
    goes_on = same-goes_on k r good rests;
    adds = adds-none k r good rests;
    notes = notes-none k;
    keeps = keeps-none;
    found = sym e;
    kept = λ s. (refl, refl, refl);
    made = λ none. absurd (None-Some a (sym none ∙ sym e));
    large = inl;
  }

  module _ (t new : Table) (f : Form) (children : EachChild (IsFindable k) (nameless_node f).args) (none : look_up_node before (nameless_node f) ≡ None)
      (l : Kept) (q : Rows) (b : Applied) (adds : AddsFilled t new k r l q f b) where
    abbrev after : State
    after = state_in l q

    abbrev d : DTerm
    d = nameless_node f

    abbrev e : DTerm
    e = nameless_node adds.filled

    -- nor is the node with its children filled
    none-filled : look_up_node before e ≡ None
    none-filled = ap (look_up_normal before) adds.one_form ∙ none

    -- so it had no class
    class-made : MakesClassOf before adds.filled after
    class-made = elim adds.adds.step [
      | inl same ↦
          let s = id_of_node-some (nodes_of k) e b (subst (λ (z : Kept). look z) same.0 adds.adds.found) in
          let known : LookedUp before b = rest-nodes before rest b s.0 in
          absurd (None-Some known.answer (sym none-filled ∙ (ap (look_up_node before) (sym s.1) ∙ known.looked_up)))
      | inr made ↦ made
    ]
      where
        look : Kept → Type 0
        look z = id_of_node (nodes_of z) e ≡ Some b

    abbrev c : DTerm
    c = class-made.node

    one-shape : SameUpToNames c e
    one-shape = (shape_iff c e).0 class-made.same_shape

    abbrev π : Bijection
    π = one-shape.0

    moves : (g : State) → AtRest g → look_up_node g e ≡ option_map (renamed_id π.to) (look_up_node g c)
    moves g at = ap (look_up_node g) (sym one-shape.1) ∙ look_up_node-moved g at.sane.sound.linked at.sane.filed π.to (λ x y p. to-injective π x y p) c

    none-made : look_up_node before c ≡ None
    none-made = option_map-none (renamed_id π.to) (look_up_node before c) (sym (moves before rest) ∙ none-filled)

    made-first : HasAdded before c class-made.between
    made-first = laws.adds before rest c class-made.is_new class-made.between class-made.adds

    -- the children of the node are valid once its class is there
    valid-then : EachChild (IsValidIn class-made.between) c.args
    valid-then = EachChild-map (IsFull (nodes_of k)) (IsValidIn class-made.between)
        (λ a w. (made-first.goes_on.finds a (full-is_valid (nodes_of k) (entries_of k) good.stored.sane.sound.linked a w)).0) c.args class-made.is_new.children

    kept : KeepsLookUps before c after
    kept = keeps-then before c class-made.between after made-first.rest made-first.goes_on valid-then
        (keeps-look_ups before rest c class-made.is_new none-made class-made.between class-made.adds) class-made.same

    rest-after : AtRest after
    rest-after = at-rest l q adds.adds.good adds.adds.rests

    -- normal forms of nodes over ids that found stay what they were
    normal-same : (x : DTerm) → EachChild (IsFindable k) x.args → normal (entries_of l) x ≡ normal (entries_of k) x
    normal-same x v = ap (node x.op x.payloads) (normal_args-agree (IsFindable k) (entries_of k) (entries_of l) kept.finds x.args v)

    filled-children : EachChild (IsFindable k) e.args
    filled-children = EachChild-map (IsFull (nodes_of k)) (IsFindable k) (full-findable k good) e.args (full_children (nodes_of k) adds.filled adds.fits adds.full)

    one-form : normal (entries_of l) d ≡ normal (entries_of l) e
    one-form = normal-same d children ∙ (sym adds.one_form ∙ sym (normal-same e filled-children))

    -- the node is looked up as the new class
    pub answer : Applied
    answer = renamed_id π.to kept.new_class.0

    pub found : look_up_node after d ≡ Some answer
    unfolding answer
    found = ap (look_up_normal after) one-form ∙ (moves after rest-after ∙ ap (option_map (renamed_id π.to)) kept.new_class.1)

    filed-class : HasNewClass t new (nodes_of k) (nodes_of l) e
    filed-class =
        let h : HasNewClass adds.between new (nodes_of k) (nodes_of l) e = adds.adds.made no-id in
        record { node = h.node; class = h.class; same_shape = h.same_shape; fresh = λ s m. fresh-later t adds.between new s adds.no_more (h.fresh s m) }
      where
        no-id : id_of_node (nodes_of k) e ≡ None
        no-id = go (id_of_node (nodes_of k) e) refl
          where
            go : (o : Option Applied) → id_of_node (nodes_of k) e ≡ o → o ≡ None
            go None p = refl
            go (Some x) p =
                let s = id_of_node-some (nodes_of k) e x p in
                let known : LookedUp before x = rest-nodes before rest x s.0 in
                absurd (None-Some known.answer (sym none-filled ∙ (ap (look_up_node before) (sym s.1) ∙ known.looked_up)))

    pub found-made : (a : Applied) → Some a ≡ look_up_node after d → AddsFound t new k r l q f a
    unfolding answer
    found-made a is = record {
      good = adds.adds.good;
      rests = adds.adds.rests;
      fresh_slots = adds.adds.fresh_slots;
      extends = adds.adds.extends;
      goes_on = adds.adds.goes_on;
      adds = adds.adds.adds;
      notes = adds.adds.notes;
      keeps = record { finds = kept.finds; nodes = kept.nodes; trees = kept.trees };
      found = sym is;
      kept = λ s. absurd (false≢true (sym (ap is_some none) ∙ s));
      made = λ n. record {
        node = e;
        fills = adds.fills;
        class = filed-class;
        number = ap (λ (x : Applied). x.0) (same-some (is ∙ found)) ∙ kept.new_class.2;
      };
      large = adds.large;
    }
      where
        same-some : Some a ≡ Some answer → a ≡ answer
        same-some p = Some-same a answer p

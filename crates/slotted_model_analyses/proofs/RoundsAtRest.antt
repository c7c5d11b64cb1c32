-- Edits and rounds lead from rest to rest, and assert what was asked alone.
use Rattle.std.proofs.Common.{◌≡◌, ℕ, ◌≤◌, List, [], ◌∷◌, ◌++◌, sym, ◌∙◌, ap, refl, subst, inl, inr, arith}
use Rattle.std.specs.Prelude.{◌⊎◌, Contains}
use Rattle.std.proofs.lemmas.List.Elements.{Contains-append_cases}
use Rattle.slotted_lists.proofs.Contained.{contains_head, contains_tail, contains_cases, Contains-nil}
use Rattle.slotted_theory.specs.Nameless.{DTerm}
use Rattle.slotted_model.specs.Applied.{Applied, EachChild}
use Rattle.slotted_model.specs.Classes.{term_of, layer_of, IsFull}
use Rattle.slotted_model.specs.Find.{find_class, used_slots}
use Rattle.slotted_model.specs.Growth.{Added}
use Rattle.slotted_model.specs.ProofList.{equation_of, term_pair, asserted}
use Rattle.slotted_model.specs.State.{State}
use Rattle.slotted_model.specs.Rest.{AtRest}
use Rattle.slotted_model.specs.Changes.{GoesOn}
use Rattle.slotted_model.specs.Adding.{HasAdded, Asserts, HasAsserted}
use Rattle.slotted_model.proofs.Rebuilding.Adding.{adds}
use Rattle.slotted_model.proofs.Rebuilding.Asserting.{asserts}
use Rattle.slotted_model.proofs.Represented.Children.{EachChild-map}
use Rattle.slotted_model.proofs.Rebuilding.GoingOn.{goes_on-same, goes_on-then}
use Rattle.slotted_model.proofs.Represented.Growing.{added}
use Rattle.slotted_model_analyses.specs.Analysis.{Analysis, IsMerge}
use Rattle.slotted_model_analyses.specs.DataPart.{DataPart, DataGoesDown, RestsWithData}
use Rattle.slotted_model_analyses.specs.Carried.{CarriesTo}
use Rattle.slotted_model_analyses.specs.Rounds.{Edit, Modify, AddsNodes, no_more, one_more, MakesEdit, makes_add, makes_equal, makes_equate, MakesEdits, all_made, then_edit, Modifies, all_modified, modified, passed_over, TakesRound, TakesRounds, no_rounds, one_round, SaysEdit, IsAsked}
use Rattle.slotted_model_analyses.proofs.Absorbing.{absorbs-then}
use Rattle.slotted_model_analyses.proofs.CarriedSteps.{carried-same, carried-then}

-- classes that are made
pub record HasMadeNodes (g h : State) : Type 0 where
  pub rest : AtRest h
  pub goes_on : GoesOn g h
  pub same_asserted : asserted h.nodes h.proofs ≡ asserted g.nodes g.proofs
  pub terms : (x : Applied) → IsFull g.nodes x → IsFull h.nodes x × (term_of h.nodes x ≡ term_of g.nodes x)
  pub layers : (d : DTerm) → EachChild (IsFull g.nodes) d.args → layer_of h.nodes d ≡ layer_of g.nodes d

pub nodes-made : {g h : State} → AtRest g → AddsNodes g h → HasMadeNodes g h
nodes-made {g} x no_more = record { rest = x; goes_on = goes_on-same g x.sane.sound.linked; same_asserted = refl; terms = λ y f. (f, refl); layers = λ d e. refl }
nodes-made {g} x (one_more {h = h} {k = k} c r new add) =
    let y : HasMadeNodes g h = nodes-made x r in
    let w : HasAdded h c k = adds h y.rest c new k add in
    let grown : Added h.nodes (h.nodes ++ c ∷ []) c = added h.nodes c y.rest.sane.sound.canonical new in
    record {
      rest = w.rest;
      goes_on = goes_on-then g h k x.sane.sound.linked y.goes_on w.goes_on;
      same_asserted = w.same_asserted ∙ y.same_asserted;
      terms = λ b f.
          let j = y.terms b f in (
            subst (λ ns. IsFull ns b) (sym w.nodes) (grown.extends.full b j.0),
            ap (λ ns. term_of ns b) w.nodes ∙ (grown.extends.terms b j.0 ∙ j.1),
          );
      layers = λ d e.
          ap (λ ns. layer_of ns d) w.nodes
          ∙ (grown.extends.layers d (EachChild-map (IsFull g.nodes) (IsFull h.nodes) (λ b f. (y.terms b f).0) d.args e) ∙ y.layers d e);
    }

module _ {D : Type 0} (a : Analysis D) (law : IsMerge D a) where
  -- what holds after writes from rest to rest
  pub record HasGoneOn (g : State) (s : DataPart D) (h : State) (t : DataPart D) : Type 0 where
    pub goes_on : GoesOn g h
    pub carries : CarriesTo a g s h t

  gone-same : (g : State) (s : DataPart D) → RestsWithData a g s → HasGoneOn g s g s
  gone-same g s x = record { goes_on = goes_on-same g x.rest.sane.sound.linked; carries = carried-same a law g s x }

  gone-then : (g h k : State) (s t u : DataPart D) → RestsWithData a g s → HasGoneOn g s h t → HasGoneOn h t k u → HasGoneOn g s k u
  gone-then g h k s t u x p q = record {
    goes_on = goes_on-then g h k x.rest.sane.sound.linked p.goes_on q.goes_on;
    carries = carried-then a law g h k s t u p.goes_on p.carries q.carries;
  }

  -- an assertion
  asserted-on : (g : State) (s : DataPart D) → RestsWithData a g s → (x y : Applied) → IsFull g.nodes x → IsFull g.nodes y → (h : State) (t : DataPart D) → Asserts g x y h → CarriesTo a g s h t →
      HasGoneOn g s h t × HasAsserted g x y h
  asserted-on g s r x y fx fy h t w c = let v : HasAsserted g x y h = asserts g r.rest x y fx fy h w in (record { goes_on = v.goes_on; carries = c }, v)

  -- the pair was asserted for the edit e of the class c, between g and h
  pub record SaidEdit (g h : State) (c : ℕ) (slots : List ℕ) (e : Edit) (pair : DTerm × DTerm) : Type 0 where
    pub said : State
    pub left : Applied
    pub right : Applied
    pub said_rests : AtRest said
    pub between : GoesOn g said
    pub to : GoesOn said h
    pub says : SaysEdit said c slots e left right
    pub is : pair ≡ term_pair said.nodes (equation_of left right)

  abbrev Pairs : State → DTerm × DTerm → Type 0
  Pairs g pair = Contains (asserted g.nodes g.proofs) pair

  -- what an assertion adds to what was asserted before it
  said-pair : (g h k : State) (x y : Applied) → asserted h.nodes h.proofs ≡ asserted g.nodes g.proofs → HasAsserted h x y k → (pair : DTerm × DTerm) → Pairs k pair → Pairs g pair ⊎ (pair ≡ term_pair h.nodes (equation_of x y))
  said-pair g h k x y same v pair c = elim v.asserted_list [
    | inl e ↦ inl (subst (λ ps. Contains ps pair) (e ∙ same) c)
    | inr e ↦ elim (Contains-append_cases (asserted h.nodes h.proofs) (term_pair h.nodes (equation_of x y) ∷ []) pair (subst (λ ps. Contains ps pair) e c)) [
      | inl j ↦ inl (subst (λ ps. Contains ps pair) same j)
      | inr j ↦ elim (contains_cases (term_pair h.nodes (equation_of x y)) [] pair j) [
        | inl q ↦ inr q
        | inr k ↦ absurd (Contains-nil pair k)
      ]
    ]
  ]

  abbrev Said : State → State → ℕ → List ℕ → Edit → Type 0
  Said g h c slots e = (pair : DTerm × DTerm) → Pairs h pair → Pairs g pair ⊎ SaidEdit g h c slots e pair

  pub edit-made : (g : State) (s : DataPart D) → RestsWithData a g s → (c : ℕ) (slots : List ℕ) {e : Edit} {h : State} {t : DataPart D} → MakesEdit a g s c slots e h t → HasGoneOn g s h t × Said g h c slots e
  edit-made g s x c slots (makes_add d tree) =
      let n = nodes-made x.rest tree.nodes in
      (record { goes_on = n.goes_on; carries = tree.carries }, λ pair j. inl (subst (λ ps. Contains ps pair) n.same_asserted j))
  edit-made g s x c slots (makes_equal {h = h} {k = k} {t = t} {u = u} {b = b} {x = y} d tree fills says carries) =
      let n = nodes-made x.rest tree.nodes in
      let gone : HasGoneOn g s h t = record { goes_on = n.goes_on; carries = tree.carries } in
      let v = asserted-on h t tree.carries.rests y b fills.full tree.full k u says carries in (
        gone-then g h k s t u x gone v.0,
        λ pair j. elim (said-pair g h k y b n.same_asserted v.1 pair j) [
          | inl i ↦ inl i
          | inr q ↦ inr (record { said = h; left = y; right = b; said_rests = n.rest; between = n.goes_on; to = v.0.goes_on; says = (fills, tree.term); is = q })
        ],
      )
  edit-made g s x c slots (makes_equate {h = h} {k = k} {l = l} {t = t} {u = u} {v = v} {b = b} {x = y} d e left right says carries) =
      let n = nodes-made x.rest left.nodes in
      let m = nodes-made n.rest right.nodes in
      let f = m.terms b left.full in
      let both : HasGoneOn g s k u = gone-then g h k s t u x (record { goes_on = n.goes_on; carries = left.carries }) (record { goes_on = m.goes_on; carries = right.carries }) in
      let w = asserted-on k u right.carries.rests b y f.0 right.full l v says carries in (
        gone-then g k l s u v x both w.0,
        λ pair j. elim (said-pair g k l b y (m.same_asserted ∙ n.same_asserted) w.1 pair j) [
          | inl i ↦ inl i
          | inr q ↦ inr (record { said = k; left = b; right = y; said_rests = m.rest; between = both.goes_on; to = w.0.goes_on; says = (f.1 ∙ left.term, right.term); is = q })
        ],
      )

  -- the edits of a class
  pub edits-made : (c : ℕ) (slots : List ℕ) {g : State} {s : DataPart D} {es : List Edit} {h : State} {t : DataPart D} → RestsWithData a g s → MakesEdits a c slots g s es h t →
      HasGoneOn g s h t × ((pair : DTerm × DTerm) → Pairs h pair → Pairs g pair ⊎ ((e : Edit) × Contains es e × SaidEdit g h c slots e pair))
  edits-made c slots {g} {s} x all_made = (gone-same g s x, λ pair j. inl j)
  edits-made c slots {g} {s} x (then_edit {h = h} {k = k} {t = t} {u = u} {e = e} {es = es} one more) =
      let p = edit-made g s x c slots one in
      let q = edits-made c slots p.0.carries.rests more in (
        gone-then g h k s t u x p.0 q.0,
        λ pair j. elim (q.1 pair j) [
          | inl i ↦ elim (p.1 pair i) [
            | inl y ↦ inl y
            | inr y ↦ inr (e, contains_head e es, record { said = y.said; left = y.left; right = y.right; said_rests = y.said_rests; between = y.between; to = goes_on-then y.said h k y.said_rests.sane.sound.linked y.to q.0.goes_on; says = y.says; is = y.is })
          ]
          | inr y ↦ inr (
            y.0,
            contains_tail e es y.0 y.1,
            record {
              said = y.2.said;
              left = y.2.left;
              right = y.2.right;
              said_rests = y.2.said_rests;
              between = goes_on-then g h y.2.said x.rest.sane.sound.linked p.0.goes_on y.2.between;
              to = y.2.to;
              says = y.2.says;
              is = y.2.is;
            },
          )
        ],
      )

  module _ (modify : Modify D) where
    abbrev pub Asked : State → State → Type 0
    Asked g h = (pair : DTerm × DTerm) → Pairs h pair → Pairs g pair ⊎ IsAsked a modify g h pair

    asked-later : (g h k : State) (pair : DTerm × DTerm) → GoesOn h k → IsAsked a modify g h pair → IsAsked a modify g k pair
    asked-later g h k pair on y = record {
      asked = y.asked;
      part = y.part;
      class = y.class;
      edit = y.edit;
      said = y.said;
      left = y.left;
      right = y.right;
      asked_rests = y.asked_rests;
      said_rests = y.said_rests;
      from = y.from;
      between = y.between;
      to = goes_on-then y.said h k y.said_rests.sane.sound.linked y.to on;
      lives = y.lives;
      answered = y.answered;
      says = y.says;
      is = y.is;
    }

    asked-earlier : (g h k : State) (pair : DTerm × DTerm) → AtRest g → GoesOn g h → IsAsked a modify h k pair → IsAsked a modify g k pair
    asked-earlier g h k pair rest on y = record {
      asked = y.asked;
      part = y.part;
      class = y.class;
      edit = y.edit;
      said = y.said;
      left = y.left;
      right = y.right;
      asked_rests = y.asked_rests;
      said_rests = y.said_rests;
      from = goes_on-then g h y.asked rest.sane.sound.linked on y.from;
      between = y.between;
      to = y.to;
      lives = y.lives;
      answered = y.answered;
      says = y.says;
      is = y.is;
    }

    asked-then : (g h k : State) → AtRest g → GoesOn g h → GoesOn h k → Asked g h → Asked h k → Asked g k
    asked-then g h k rest on more p q pair j = elim (q pair j) [
      | inl i ↦ elim (p pair i) [
        | inl y ↦ inl y
        | inr y ↦ inr (asked-later g h k pair more y)
      ]
      | inr y ↦ inr (asked-earlier g h k pair rest on y)
    ]

    -- the classes of a round
    modified-on : {g : State} {s : DataPart D} {cs : List ℕ} {h : State} {t : DataPart D} → RestsWithData a g s → Modifies a modify g s cs h t → HasGoneOn g s h t × Asked g h
    modified-on {g} {s} x all_modified = (gone-same g s x, λ pair j. inl j)
    modified-on {g} {s} x (modified {h = h} {k = k} {t = t} {u = u} {c = c} l lives asked edits more) =
        let p = edits-made c (used_slots g.found c) x edits in
        let q = modified-on p.0.carries.rests more in
        let here : Asked g h =
        λ pair j. elim (p.1 pair j) [
          | inl i ↦ inl i
          | inr y ↦ inr (record {
            asked = g;
            part = s;
            class = c;
            edit = y.0;
            said = y.2.said;
            left = y.2.left;
            right = y.2.right;
            asked_rests = x;
            said_rests = y.2.said_rests;
            from = goes_on-same g x.rest.sane.sound.linked;
            between = y.2.between;
            to = y.2.to;
            lives = lives;
            answered = asked y.0 y.1;
            says = y.2.says;
            is = y.2.is;
          })
        ] in
        (gone-then g h k s t u x p.0 q.0, asked-then g h k x.rest p.0.goes_on q.0.goes_on here q.1)
    modified-on x (passed_over dead more) = modified-on x more

    -- with nothing that waits to be modified
    pub cleared : (g : State) (s : DataPart D) → RestsWithData a g s → RestsWithData a g (record s { changed = [] })
    cleared g s x = record {
      rest = x.rest;
      has = record {
        waits_once = x.has.waits_once;
        waits_whole = x.has.waits_whole;
        waits_for_row = x.has.waits_for_row;
        absorbs_made = x.has.absorbs_made;
        changed_once = tt;
        changed_in_range = λ i c. absurd (Contains-nil i c);
      };
      nothing_waits = x.nothing_waits;
    }

    pub round-on : (g : State) (s : DataPart D) → RestsWithData a g s → (h : State) (t : DataPart D) → TakesRound a modify g s h t → HasGoneOn g (record s { changed = [] }) h t × Asked g h
    round-on g s x h t r = modified-on (cleared g s x) r.modifies

    pub record HasTakenRounds (g : State) (s : DataPart D) (h : State) (t : DataPart D) : Type 0 where
      pub rest : RestsWithData a h t
      pub goes_on : GoesOn g h
      pub classes : DataGoesDown a g s h t
      pub asked : Asked g h

    pub rounds-on : {g : State} {s : DataPart D} {n : ℕ} {h : State} {t : DataPart D} → RestsWithData a g s → TakesRounds a modify g s n h t → HasTakenRounds g s h t
    rounds-on {g} {s} x no_rounds = let p = gone-same g s x in record { rest = x; goes_on = p.goes_on; classes = p.carries.down; asked = λ pair j. inl j }
    rounds-on {g} {s} x (one_round {h = h} {k = k} {t = t} {u = u} more c waits lives r) =
        let p = rounds-on x more in
        let q = round-on h t p.rest k u r in
        record {
          rest = q.0.carries.rests;
          goes_on = goes_on-then g h k x.rest.sane.sound.linked p.goes_on q.0.goes_on;
          classes = λ i l. absorbs-then a law (u.data_of (find_class k.found i)) (t.data_of (find_class h.found i)) (s.data_of (find_class g.found i)) (q.0.carries.down i (p.goes_on.classes i l).0) (p.classes i l);
          asked = asked-then g h k x.rest p.goes_on q.0.goes_on p.asked q.1;
        }

module _ {D : Type 0} (a : Analysis D) where
  -- with no rounds all waits
  pub no_rounds-same : (modify : Modify D) {g : State} {s : DataPart D} {n : ℕ} {h : State} {t : DataPart D} → TakesRounds a modify g s n h t → n ≤ 0 → (h ≡ g) × (t ≡ s)
  no_rounds-same modify no_rounds l = (refl, refl)
  no_rounds-same modify (one_round more c waits lives r) l = absurd (omega arith)

  -- an analysis that asks nothing changes nothing
  none-made : (c : ℕ) (slots : List ℕ) {g : State} {s : DataPart D} {es : List Edit} {h : State} {t : DataPart D} → MakesEdits a c slots g s es h t → ((e : Edit) → ¬ Contains es e) → (h ≡ g) × (t ≡ s)
  none-made c slots all_made n = (refl, refl)
  none-made c slots (then_edit {e = e} {es = es} one more) n = absurd (n e (contains_head e es))

  pub none-modified : (modify : Modify D) → ((x : D) (slots : List ℕ) (e : Edit) → ¬ modify x slots e) → {g : State} {s : DataPart D} {cs : List ℕ} {h : State} {t : DataPart D} → Modifies a modify g s cs h t → (h ≡ g) × (t ≡ s)
  none-modified modify none all_modified = (refl, refl)
  none-modified modify none (modified {g = g} {s = s} {c = c} l lives asked edits more) =
      let p = none-made c (used_slots g.found c) edits (λ e k. none (s.data_of c) (used_slots g.found c) e (asked e k)) in
      let q = none-modified modify none more in
      (q.0 ∙ p.0, q.1 ∙ p.1)
  none-modified modify none (passed_over dead more) = none-modified modify none more

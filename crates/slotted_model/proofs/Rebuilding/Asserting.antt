-- From rest to rest: an assertion with its union; and that both calls can be made.
use Rattle.std.proofs.Common.{◌≡◌, ◌≢◌, ℕ, suc, ◌<◌, [], ◌∷◌, ◌++◌, None, length, sym, ◌∙◌, ap, refl, inl, inr, arith}
use Rattle.std.specs.Prelude.{◌⊎◌}
use Rattle.std.proofs.lemmas.Bool.{cases_Bool, false≢true}
use Rattle.slotted_lists.proofs.Contained.{Contains-nil}
use Rattle.slotted_theory.specs.Nameless.{DTerm}
use Rattle.slotted_theory.specs.Shape.{shape}
use Rattle.slotted_theory.proofs.Shapes.{shape_iff}
use Rattle.slotted_model.specs.Applied.{Applied, EachChild}
use Rattle.slotted_model.specs.Classes.{canonical_node, canonical_slots, IsFull}
use Rattle.slotted_model.specs.Growth.{IsNew}
use Rattle.slotted_model.specs.Ids.{term_eq, class_with_names}
use Rattle.slotted_model.specs.Link.{CanEnter}
use Rattle.slotted_model.specs.ProofList.{ProofEntry, explicit, equation_of, equation_at, asserted}
use Rattle.slotted_model.specs.State.{Row, State, normal_node, look_up_node}
use Rattle.slotted_model.specs.Rest.{Sane, Represents, AtRest, FoundTogether, LookedUp}
use Rattle.slotted_model.specs.Changes.{GoesOn, StandsAt, Unites, HasUnited, RepresentsBut, with_proofs}
use Rattle.slotted_model.specs.Rebuild.{Runs, HasNothingLeft, CongruenceEntered}
use Rattle.slotted_model.specs.Adding.{with_new_class, with_new_row, with_assertion, Adds, joins_row, files_row, Asserts, is_new, stands, HasAsserted}
use Rattle.slotted_model.proofs.Represented.Ids.{term_eq-true, term_eq-same, Stands, class-stands}
use Rattle.slotted_model.proofs.Data.Options.{None-Some}
use Rattle.slotted_model.proofs.Finds.Keeping.{nothing-sound, entered-sound}
use Rattle.slotted_model.proofs.Finds.Entering.{entered-asserted, equation-earlier, equation-last, step-earlier, earlier_or_last, longer-length}
use Rattle.slotted_model.proofs.Finds.Explaining.{stands_cases}
use Rattle.slotted_model.proofs.Correspondences.FullMaps.{same_names-partial}
use Rattle.slotted_model.proofs.Correspondences.FullIds.{full_map}
use Rattle.slotted_model.proofs.Finds.NormalIds.{found-again}
use Rattle.slotted_model.proofs.Rebuilding.UpTo.{upto-together}
use Rattle.slotted_model.proofs.Rebuilding.GoingOn.{goes_on-then, still-row, still-listed, still-linked, still-equal}
use Rattle.slotted_model.proofs.Rebuilding.GrowingLists.{proofs-sane}
use Rattle.slotted_model.proofs.Rebuilding.Rows.{rest-nodes}
use Rattle.slotted_model.proofs.Rebuilding.Unions.{unites}
use Rattle.slotted_model.proofs.Rebuilding.AfterUnions.{represents-but, united-represents}
use Rattle.slotted_model.proofs.Rebuilding.Turning.{run, ended, HasRun}
use Rattle.slotted_model.proofs.Rebuilding.Congruences.{row-shape, congruence-entered}
use Rattle.slotted_model.proofs.Rebuilding.Ending.{one-or-none, union-ends, rebuild-ends, Done}
use Rattle.slotted_model.proofs.Rebuilding.Adding.{class-sane, last-in_range, filed-ready}

-- one more entry of the proof list, whatever its step
module _ (g : State) (sane : Sane g) (entry : ProofEntry) (can : CanEnter g.nodes g.proofs entry) where
  abbrev newer : State
  newer = with_proofs g (g.proofs ++ entry ∷ [])

  pub entry-goes_on : GoesOn g newer
  entry-goes_on = record {
    classes = λ i h. (h, refl);
    finds = λ a v. (v, sym (found-again g.nodes g.found sane.sound.linked a v));
    proofs = λ p h. ((let e : length newer.proofs ≡ suc (length g.proofs) = longer-length g.proofs entry in omega arith), equation-earlier g.proofs entry p h);
    symmetries = λ y c. c;
  }

  pub entry-sane : Sane newer
  entry-sane = record {
    sound = entered-sound g.nodes g.found g.proofs entry sane.sound can;
    filed = record {
      each = λ r c. still-row g newer sane.sound entry-goes_on r (sane.filed.each r c);
      once = sane.filed.once;
      shapes = sane.filed.shapes;
      waits_once = sane.filed.waits_once;
      waits_for_row = sane.filed.waits_for_row;
      current = λ r c n. let cur = sane.filed.current r c n in record { in_normal_form = cur.in_normal_form; covered = cur.covered };
    };
    each_listed = λ y c. still-listed g newer sane.sound entry-goes_on y (sane.each_listed y c);
    listed_once = sane.listed_once;
  }

  -- only the new entry need not be respected yet
  pub entry-represents : Represents g → RepresentsBut (length g.proofs) newer
  entry-represents r = record {
    linked = λ i h. let l = r.linked i h in (l.0, l.1, still-linked g newer sane.sound entry-goes_on i l.0 l.2);
    asserted = λ q h n x a b fa fb e. elim (earlier_or_last g.proofs entry q h) [
      | inl l ↦ still-equal g newer sane.sound entry-goes_on (r.asserted q l (sym (step-earlier g.proofs entry q l) ∙ x) a b fa fb (e ∙ equation-earlier g.proofs entry q l))
      | inr m ↦ absurd (n m)
    ];
  }

-- the assertion of two full ids can be entered where its equation does not stand
pub can_assert : (g : State) (a b : Applied) → IsFull g.nodes a → IsFull g.nodes b → ((q : ℕ) → q < length g.proofs → equation_at g.proofs q ≢ equation_of a b) → CanEnter g.nodes g.proofs (record { equation = equation_of a b; step = explicit })
can_assert g a b fa fb new = record {
  over = record { left = fa.in_range; right = fb.in_range; pairs = same_names-partial (canonical_slots g.nodes a.0) (canonical_slots g.nodes b.0) a.1 b.1 (full_map g.nodes a fa) (full_map g.nodes b fb) };
  proved = tt;
  is_new = new;
}

-- after the union all is at rest again, and the two are found together
after-union : (g : State) → Sane g → (p : ℕ) → RepresentsBut p g → (a b : Applied) → IsFull g.nodes a → IsFull g.nodes b → StandsAt g p (equation_of a b) →
    (f : State) → Unites p g f → {n : ℕ} {h : State} → Runs f n h → HasNothingLeft h → AtRest h × GoesOn g h × (h.nodes ≡ g.nodes) × FoundTogether h a b × (asserted h.nodes h.proofs ≡ asserted g.nodes g.proofs)
after-union g sane p but a b fa fb at f u {n} {h} runs left =
    let w : HasUnited p g f = unites p u sane at.0 in
    let x : HasRun f n h = run f w.sane runs in
    let rest : AtRest h = ended f w.sane (united-represents p g f sane but w) runs left in (
      rest,
      goes_on-then g f h sane.sound.linked w.goes_on x.rebuilt.goes_on,
      x.rebuilt.same_nodes ∙ w.same_nodes,
      upto-together h rest.aligned (still-equal f h w.sane.sound x.rebuilt.goes_on (w.equal a b fa fb (sym at.1))),
      x.rebuilt.same_asserted ∙ w.same_asserted,
    )

pub asserts : (g : State) → AtRest g → (a b : Applied) → IsFull g.nodes a → IsFull g.nodes b → (h : State) → Asserts g a b h → HasAsserted g a b h
asserts g rest a b fa fb h (is_new {f = f} new u runs left) =
    let entry : ProofEntry = record { equation = equation_of a b; step = explicit } in
    let can : CanEnter g.nodes g.proofs entry = can_assert g a b fa fb new in
    let m : State = with_assertion g (equation_of a b) in
    let at : StandsAt m (length g.proofs) (equation_of a b) = ((let e : length m.proofs ≡ suc (length g.proofs) = longer-length g.proofs entry in omega arith), equation-last g.proofs entry) in
    let r = after-union m (entry-sane g rest.sane entry can) (length g.proofs) (entry-represents g rest.sane entry can rest.represents) a b fa fb at f u runs left in
    record {
      rest = r.0;
      goes_on = goes_on-then g m h rest.sane.sound.linked (entry-goes_on g rest.sane entry can) r.1;
      same_nodes = r.2;
      together = r.3;
      stands = (length g.proofs, ((r.1.proofs (length g.proofs) at.0).0, (r.1.proofs (length g.proofs) at.0).1 ∙ at.1));
      asserted_list = inr (r.4 ∙ entered-asserted g.nodes g.proofs entry);
    }
asserts g rest a b fa fb h (stands {f = f} p at u runs left) =
    let r = after-union g rest.sane p (represents-but p g rest.represents) a b fa fb at f u runs left in
    record {
      rest = r.0;
      goes_on = r.1;
      same_nodes = r.2;
      together = r.3;
      stands = (p, ((r.1.proofs p at.0).0, (r.1.proofs p at.0).1 ∙ at.1));
      asserted_list = inl r.4;
    }

-- an assertion can be made
pub asserting-ends : (g : State) → AtRest g → (a b : Applied) → IsFull g.nodes a → IsFull g.nodes b → (h : State) × Asserts g a b h
asserting-ends g rest a b fa fb = elim (stands_cases g.proofs (equation_of a b)) [
  | inl s ↦
      let u = union-ends s.0 g rest.sane s.1 in
      let d : Done u.0 = rebuild-ends u.0 (unites s.0 u.1 rest.sane s.1).sane in
      (d.1, stands s.0 (s.1, s.2) u.1 d.2 d.3)
  | inr new ↦
      let entry : ProofEntry = record { equation = equation_of a b; step = explicit } in
      let sane : Sane (with_assertion g (equation_of a b)) = entry-sane g rest.sane entry (can_assert g a b fa fb new) in
      let k : length g.proofs < length (with_assertion g (equation_of a b)).proofs = (let e : length (g.proofs ++ entry ∷ []) ≡ suc (length g.proofs) = longer-length g.proofs entry in omega arith) in
      let u = union-ends (length g.proofs) (with_assertion g (equation_of a b)) sane k in
      let d : Done u.0 = rebuild-ends u.0 (unites (length g.proofs) u.1 sane k).sane in
      (d.1, is_new new u.1 d.2 d.3)
]

shape-decided : (s : DTerm) (r : Row) → (r.shape ≡ s) ⊎ (r.shape ≢ s)
shape-decided s r = elim (cases_Bool (term_eq r.shape s)) [
  | inl t ↦ inl (term_eq-true r.shape s t)
  | inr f ↦ inr (λ e. false≢true (sym f ∙ term_eq-same r.shape s e))
]

-- a class can be made
pub adding-ends : (g : State) → AtRest g → (c : DTerm) → IsNew g.nodes c → (h : State) × Adds g c h
adding-ends g rest c new =
    let m : State = with_new_class g c in
    let i : ℕ = length g.nodes in
    let sane : Sane m = class-sane g rest.sane c new in
    let last : i < length m.nodes = last-in_range g rest.sane c new in
    elim (one-or-none (λ r. r.shape ≡ shape (normal_node m i)) (shape-decided (shape (normal_node m i))) g.rows) [
      | inl r ↦
          let x : CongruenceEntered m i r.0.source = congruence-entered m sane i last r.0.source (sane.filed.each r.0 r.1).in_range (row-shape m sane i last r.0 r.1 r.2) in
          let ready : Sane (with_proofs m x.proofs) = proofs-sane m sane x.proofs x.grow in
          let u = union-ends x.number (with_proofs m x.proofs) ready x.congruence.stands.0 in
          let d : Done u.0 = rebuild-ends u.0 (unites x.number u.1 ready x.congruence.stands.0).sane in
          (d.1, joins_row {n = d.0} {f = u.0} {h = d.1} x.proofs x.number r.0 x.grow r.1 r.2 x.congruence u.1 d.2 d.3)
      | inr none ↦
          let d : Done (with_new_row m i) = rebuild-ends (with_new_row m i) (filed-ready g rest.sane c new rest.represents none).0 in
          (d.1, files_row none d.2 d.3)
    ]

-- at rest a node that is not looked up is new
pub not_looked_up-new : (g : State) → AtRest g → (d : DTerm) → 0 < d.op → EachChild (IsFull g.nodes) d.args → look_up_node g d ≡ None → IsNew g.nodes d
not_looked_up-new g rest d h c n = record {
  operator = h;
  children = c;
  shape_is_new = λ i k e.
      let s : Stands g.nodes d (class_with_names g.nodes d i) = class-stands g.nodes d i k ((shape_iff (canonical_node g.nodes i) d).0 e) in
      let r : LookedUp g (class_with_names g.nodes d i) = rest-nodes g rest (class_with_names g.nodes d i) s.0 in
      None-Some r.answer (sym n ∙ (ap (look_up_node g) (sym s.1) ∙ r.looked_up));
}

-- the empty graph is at rest
pub nothing-rests : AtRest (record { nodes = []; found = []; proofs = []; rows = []; waiting = []; symmetries = [] })
nothing-rests = record {
  sane = record {
    sound = nothing-sound;
    filed = record {
      each = λ r c. absurd (Contains-nil r c);
      once = tt;
      shapes = λ r q c d e. absurd (Contains-nil r c);
      waits_once = tt;
      waits_for_row = λ o c. absurd (Contains-nil o c);
      current = λ r c n. absurd (Contains-nil r c);
    };
    each_listed = λ y c. absurd (Contains-nil y c);
    listed_once = λ y z c d e f h. absurd (Contains-nil y c);
  };
  represents = record { linked = λ i h. absurd (omega arith); asserted = λ p h x a b fa fb e. absurd (omega arith) };
  nothing_waits = refl;
  aligned = λ y c. absurd (Contains-nil y c);
}

-- Unions, turns and runs put proofs and symmetries at the ends of their lists; so an assertion is an explicit entry where its equation stood nowhere.
use Rattle.std.proofs.Common.{◌≡◌, ℕ, suc, ◌<◌, ◌≤◌, List, [], ◌∷◌, ◌++◌, length, sym, ◌∙◌, ap, refl, append_assoc, arith}
use Rattle.std.specs.Prelude.{slice_index_or}
use Rattle.std.proofs.lemmas.List.{get_or_append_left, append-nil}
use Rattle.slotted_model.specs.Applied.{Applied}
use Rattle.slotted_model.specs.Classes.{IsFull}
use Rattle.slotted_model.specs.ProofList.{ProofEntry, explicit, equation_of, equation_at, step_at}
use Rattle.slotted_model.specs.State.{Symmetry, State}
use Rattle.slotted_model.specs.Link.{CanEnter}
use Rattle.slotted_model.specs.Rest.{Sane, AtRest, size, lives_from, slots_from}
use Rattle.slotted_model.specs.Changes.{GrowsAtEnds, Unites, HasUnited, finds_alike, proves, drops_left, drops_right, left_dies, right_dies, lists, is_listed}
use Rattle.slotted_model.specs.Rebuild.{Turn, enters, narrows, unites_parents, refiles, Acts, acts, Runs, starts, takes_turn, takes_act}
use Rattle.slotted_model.specs.Adding.{with_assertion, Asserts, is_new, stands, IsExactAssertion}
use Rattle.slotted_model.proofs.Rebuilding.Unions.{unites}
use Rattle.slotted_model.proofs.Finds.Entering.{no_proof, equation-last, step-last, longer-length}
use Rattle.slotted_model.proofs.Rebuilding.Asserting.{can_assert, entry-sane}
use Rattle.slotted_model.proofs.Rebuilding.AfterUnions.{united-no_larger}
use Rattle.slotted_model.proofs.Rebuilding.Turning.{run-no_larger}
use Rattle.slotted_model.proofs.Rebuilding.Counting.{unites-counts, run-lives, run-slots}

stays : (g : State) → GrowsAtEnds g g
stays g = record { more = []; proofs = sym (append-nil g.proofs); listed = []; symmetries = sym (append-nil g.symmetries) }

pub grows-then : (f g h : State) → GrowsAtEnds f g → GrowsAtEnds g h → GrowsAtEnds f h
grows-then f g h a b = record {
  more = a.more ++ b.more;
  proofs = b.proofs ∙ (ap (λ (ps : List ProofEntry). ps ++ b.more) a.proofs ∙ append_assoc f.proofs a.more b.more);
  listed = a.listed ++ b.listed;
  symmetries = b.symmetries ∙ (ap (λ (ys : List Symmetry). ys ++ b.listed) a.symmetries ∙ append_assoc f.symmetries a.listed b.listed);
}

pub unites-grow : {p : ℕ} {g h : State} → Unites p g h → GrowsAtEnds g h
unites-grow {p} {g} (finds_alike left pairs) = stays g
unites-grow {p} {g} {h} (proves proofs grow u) =
    let r : GrowsAtEnds (record g { proofs = proofs }) h = unites-grow u in
    record {
      more = grow.more ++ r.more;
      proofs = r.proofs ∙ (ap (λ (ps : List ProofEntry). ps ++ r.more) grow.is ∙ append_assoc g.proofs grow.more r.more);
      listed = r.listed;
      symmetries = r.symmetries;
    }
unites-grow {p} {g} (drops_left n s w used lost at touched u) =
    let r = unites-grow u in record { more = r.more; proofs = r.proofs; listed = r.listed; symmetries = r.symmetries }
unites-grow {p} {g} (drops_right n t w whole used lost at touched u) =
    let r = unites-grow u in record { more = r.more; proofs = r.proofs; listed = r.listed; symmetries = r.symmetries }
unites-grow {p} {g} (left_dies n moment w differ all at later touched) = record { more = []; proofs = sym (append-nil g.proofs); listed = []; symmetries = sym (append-nil g.symmetries) }
unites-grow {p} {g} (right_dies n moment w differ all at later touched) = record { more = []; proofs = sym (append-nil g.proofs); listed = []; symmetries = sym (append-nil g.symmetries) }
unites-grow {p} {g} (lists n one all moves new at) = record { more = []; proofs = sym (append-nil g.proofs); listed = _ ∷ []; symmetries = refl }
unites-grow {p} {g} (is_listed y one all there same) = stays g

turn-grows : {g h : State} → Turn g h → GrowsAtEnds g h
turn-grows {g} {h} (enters proofs grow t) =
    let r : GrowsAtEnds (record g { proofs = proofs }) h = turn-grows t in
    record {
      more = grow.more ++ r.more;
      proofs = r.proofs ∙ (ap (λ (ps : List ProofEntry). ps ++ r.more) grow.is ∙ append_assoc g.proofs grow.more r.more);
      listed = r.listed;
      symmetries = r.symmetries;
    }
turn-grows (narrows o p s waits used lost congruence u) = unites-grow u
turn-grows (unites_parents o p r waits filed other shape congruence u) =
    let q = unites-grow u in record { more = q.more; proofs = q.proofs; listed = q.listed; symmetries = q.symmetries }
turn-grows {g} (refiles o waits covered other) = record { more = []; proofs = sym (append-nil g.proofs); listed = []; symmetries = sym (append-nil g.symmetries) }

act-grows : {g h : State} → Acts g h → GrowsAtEnds g h
act-grows (acts y there unaligned u) = unites-grow u

pub run-grows : (f : State) {n : ℕ} {h : State} → Runs f n h → GrowsAtEnds f h
run-grows f starts = stays f
run-grows f (takes_turn {g = g} {h = h} r t) = grows-then f g h (run-grows f r) (turn-grows t)
run-grows f (takes_act {g = g} {h = h} r t) = grows-then f g h (run-grows f r) (act-grows t)

-- a union by an entry and the run after it
module _ (p : ℕ) (g f h : State) {n : ℕ} (sane : Sane g) (there : p < length g.proofs) (u : Unites p g f) (r : Runs f n h) where
  united : HasUnited p g f
  united = unites p u sane there

  both-grow : GrowsAtEnds g h
  both-grow = grows-then g f h (unites-grow u) (run-grows f r)

  both-size : size h ≤ size g
  both-size =
      let a : size f ≤ size g = united-no_larger p g f united in
      let b : size h ≤ size f = run-no_larger f united.sane r in
      omega arith

  both-lives : lives_from 0 h.found ≤ lives_from 0 g.found
  both-lives =
      let a : lives_from 0 f.found ≤ lives_from 0 g.found = (unites-counts p g f u sane there).0 in
      let b : lives_from 0 h.found ≤ lives_from 0 f.found = run-lives f united.sane r in
      omega arith

  both-slots : lives_from 0 h.found ≡ lives_from 0 g.found → slots_from 0 h.found ≤ slots_from 0 g.found
  both-slots e =
      let a : lives_from 0 f.found ≤ lives_from 0 g.found = (unites-counts p g f u sane there).0 in
      let b : lives_from 0 h.found ≤ lives_from 0 f.found = run-lives f united.sane r in
      let c : lives_from 0 f.found ≡ lives_from 0 g.found = omega arith in
      let d : lives_from 0 h.found ≡ lives_from 0 f.found = omega arith in
      let x : slots_from 0 f.found ≤ slots_from 0 g.found = (unites-counts p g f u sane there).1 c in
      let y : slots_from 0 h.found ≤ slots_from 0 f.found = run-slots f united.sane r d in
      omega arith

-- the entries of a longer list
kept-step : (older more newer : List ProofEntry) (q : ℕ) → newer ≡ older ++ more → q < length older → (step_at newer q ≡ step_at older q) × (equation_at newer q ≡ equation_at older q)
kept-step older more newer q e l =
    let s : slice_index_or newer q no_proof ≡ slice_index_or older q no_proof = ap (λ (ps : List ProofEntry). slice_index_or ps q no_proof) e ∙ get_or_append_left older more no_proof q l in
    (ap (λ (x : ProofEntry). x.step) s, ap (λ (x : ProofEntry). x.equation) s)

pub assertion-exact : (g : State) → AtRest g → (a b : Applied) → IsFull g.nodes a → IsFull g.nodes b → (h : State) → Asserts g a b h → IsExactAssertion g a b h
assertion-exact g rest a b fa fb h (is_new {f = f} new u r done) =
    let x : ProofEntry = record { equation = equation_of a b; step = explicit } in
    let can : CanEnter g.nodes g.proofs x = can_assert g a b fa fb new in
    let k : State = with_assertion g (equation_of a b) in
    let sane : Sane k = entry-sane g rest.sane x can in
    let there : length g.proofs < length k.proofs = (let e : length k.proofs ≡ suc (length g.proofs) = longer-length g.proofs x in omega arith) in
    let later : GrowsAtEnds k h = both-grow (length g.proofs) k f h sane there u r in
    let last = kept-step k.proofs later.more h.proofs (length g.proofs) later.proofs there in
    record {
      grows = grows-then g k h (record { more = x ∷ []; proofs = refl; listed = []; symmetries = sym (append-nil g.symmetries) }) later;
      is_explicit = λ m. (last.0 ∙ step-last g.proofs x, last.1 ∙ equation-last g.proofs x);
      smaller = both-size (length g.proofs) k f h sane there u r;
      lives = both-lives (length g.proofs) k f h sane there u r;
      slots = both-slots (length g.proofs) k f h sane there u r;
    }
assertion-exact g rest a b fa fb h (stands {f = f} p at u r done) = record {
  grows = both-grow p g f h rest.sane at.0 u r;
  is_explicit = λ m. absurd (m p at.0 at.1);
  smaller = both-size p g f h rest.sane at.0 u r;
  lives = both-lives p g f h rest.sane at.0 u r;
  slots = both-slots p g f h rest.sane at.0 u r;
}

-- Live classes and their slots never become more in a run.
use Rattle.std.proofs.Common.{◌≡◌, ◌≢◌, ℕ, zero, suc, ◌+◌, ◌<◌, ◌≤◌, List, [], ◌∷◌, length, set, cond, sym, ap, refl, inl, inr, arith}
use Rattle.std.specs.Prelude.{nat_eq}
use Rattle.std.specs.Map.{keys_of}
use Rattle.std.proofs.lemmas.Bool.{cases_eq, eq-eqb, ne_eqb}
use Rattle.slotted_model.specs.Correspondence.{identity, turned}
use Rattle.slotted_model.specs.Classes.{canonical_slots}
use Rattle.slotted_model.specs.Find.{Entry, IsLive, entry_at}
use Rattle.slotted_model.specs.Link.{CanLink, CanDrop, with_link, with_slots}
use Rattle.slotted_model.specs.ProofList.{Equation, turned_equation}
use Rattle.slotted_model.specs.State.{State}
use Rattle.slotted_model.specs.Rest.{Sane, size, size_from, entry_size, lives_from, slots_from}
use Rattle.slotted_model.specs.Changes.{GoesOn, linked_state, dropped_state, with_proofs, found_entry, Unites, finds_alike, proves, drops_left, drops_right, left_dies, right_dies, lists, is_listed}
use Rattle.slotted_model.specs.Rebuild.{Turn, enters, narrows, unites_parents, refiles, Acts, acts, Runs, starts, takes_turn, takes_act}
use Rattle.slotted_model.proofs.Rebuilding.Events.{drop-sane, size-set, entry_size-dead}
use Rattle.slotted_model.proofs.Rebuilding.GrowingLists.{proofs-go_on, proofs-sane}
use Rattle.slotted_model.proofs.Rebuilding.Unions.{can_drop-left, can_drop-right, can_link-left, can_link-right, unites}
use Rattle.slotted_model.proofs.Rebuilding.Turning.{run, run-no_larger, HasRun}
use Rattle.slotted_model.proofs.Rebuilding.AfterUnions.{united-no_larger}

-- one for a live class
lives : ℕ → Entry → ℕ
lives i e = cond (nat_eq e.class i) 1 0

lives-live : (i : ℕ) (e : Entry) → e.class ≡ i → lives i e ≡ 1
unfolding lives
lives-live i e p = ap (λ b. cond b 1 0) (eq-eqb e.class i p)

lives-dead : (i : ℕ) (e : Entry) → e.class ≢ i → lives i e ≡ 0
unfolding lives
lives-dead i e n = ap (λ b. cond b 1 0) (ne_eqb e.class i n)

-- the size is the number of live classes and their slots
entry-counts : (i : ℕ) (e : Entry) → entry_size i e ≡ lives i e + cond (nat_eq e.class i) (length e.pairs) 0
entry-counts i e = elim (cases_eq e.class i) [
  | inl p ↦
      let a : entry_size i e ≡ suc (length e.pairs) = ap (λ b. cond b (suc (length e.pairs)) 0) (eq-eqb e.class i p) in
      let b : lives i e ≡ 1 = lives-live i e p in
      let c : cond (nat_eq e.class i) (length e.pairs) 0 ≡ length e.pairs = ap (λ b. cond b (length e.pairs) 0) (eq-eqb e.class i p) in
      omega (arith, a, b, c)
  | inr n ↦
      let a : entry_size i e ≡ 0 = ap (λ b. cond b (suc (length e.pairs)) 0) (ne_eqb e.class i n) in
      let b : lives i e ≡ 0 = lives-dead i e n in
      let c : cond (nat_eq e.class i) (length e.pairs) 0 ≡ 0 = ap (λ b. cond b (length e.pairs) 0) (ne_eqb e.class i n) in
      omega (arith, a, b, c)
]

pub size-counts : (i : ℕ) (found : List Entry) → size_from i found ≡ lives_from i found + slots_from i found
unfolding lives
size-counts i [] = refl
size-counts i (e ∷ found) =
    let a : entry_size i e ≡ lives i e + cond (nat_eq e.class i) (length e.pairs) 0 = entry-counts i e in
    let b : size_from (suc i) found ≡ lives_from (suc i) found + slots_from (suc i) found = size-counts (suc i) found in
    omega arith

-- live classes with another entry
lives-set : (i k j : ℕ) (found : List Entry) (x : Entry) → k < length found → j ≡ i + k → lives_from i (set found k x) + lives j (entry_at found k) ≡ lives_from i found + lives j x
unfolding lives
lives-set i k j [] x h e = absurd (omega arith)
lives-set i zero j (y ∷ found) x h e =
    let same : j ≡ i = omega arith in
    let a : lives i y ≡ lives j y = ap (λ n. lives n y) (sym same) in
    let b : lives i x ≡ lives j x = ap (λ n. lives n x) (sym same) in
    omega arith
lives-set i (suc k) j (y ∷ found) x h e =
    let r : lives_from (suc i) (set found k x) + lives j (entry_at found k) ≡ lives_from (suc i) found + lives j x = lives-set (suc i) k j found x (omega arith) (omega arith) in
    omega arith

-- the entry of a dead class counts for nothing, and so does another one by which the class stays dead
pub dead-counts : (i : ℕ) (found : List Entry) (x : Entry) → i < length found → ¬ IsLive found i → x.class ≢ i →
    (lives_from 0 (set found i x) ≡ lives_from 0 found) × (slots_from 0 (set found i x) ≡ slots_from 0 found)
dead-counts i found x h dead led =
    let a = lives-set 0 i i found x h (omega arith) in
    let b = size-set 0 i i found x h (omega arith) in
    let old = entry_at found i in
    let same : lives_from 0 (set found i x) ≡ lives_from 0 found = omega (arith, a, lives-dead i old dead, lives-dead i x led) in (
      same,
      omega (arith, b, same, entry_size-dead i old dead, entry_size-dead i x led, size-counts 0 found, size-counts 0 (set found i x)),
    )

abbrev lives_in : State → ℕ
lives_in g = lives_from 0 g.found

-- a link costs one live class, and a drop none
link-lives : (g : State) → Sane g → (e : Equation) (proof moment : ℕ) → CanLink g.nodes g.found e → (w : List ℕ) → lives_in (linked_state g e proof moment w) ≤ lives_in g
link-lives g sane e proof moment can w =
    let new : Entry = record { class = e.right; pairs = turned (canonical_slots g.nodes e.right) e.pairs; proof = proof; died = moment } in
    let l : length g.found ≡ length g.nodes = sane.sound.linked.entries in
    let k : e.left < length g.nodes = can.over.left in
    let r : lives_from 0 (with_link g.nodes g.found e proof moment) + lives e.left (entry_at g.found e.left) ≡ lives_from 0 g.found + lives e.left new = lives-set 0 e.left e.left g.found new (omega arith) (omega arith) in
    let a : lives e.left (entry_at g.found e.left) ≡ 1 = lives-live e.left (entry_at g.found e.left) can.left_lives in
    let b : lives e.left new ≡ 0 = lives-dead e.left new (λ p. can.different (sym p)) in
    omega arith

drop-lives_same : (g : State) → Sane g → (c : ℕ) (slots : List ℕ) (proof : ℕ) → CanDrop g.nodes g.found c slots → (w : List ℕ) → lives_in (dropped_state g c slots proof w) ≡ lives_in g
drop-lives_same g sane c slots proof can w =
    let new : Entry = record { class = c; pairs = identity slots; proof = proof; died = 0 } in
    let l : length g.found ≡ length g.nodes = sane.sound.linked.entries in
    let k : c < length g.nodes = can.in_range in
    let r : lives_from 0 (with_slots g.found c slots proof) + lives c (entry_at g.found c) ≡ lives_from 0 g.found + lives c new = lives-set 0 c c g.found new (omega arith) (omega arith) in
    let a : lives c (entry_at g.found c) ≡ 1 = lives-live c (entry_at g.found c) can.lives in
    let b : lives c new ≡ 1 = lives-live c new refl in
    omega arith

unites-lives : (p : ℕ) {g h : State} → Unites p g h → Sane g → p < length g.proofs → lives_in h ≤ lives_in g
unites-lives p (finds_alike l i) sane k = omega arith
unites-lives p (proves {g = g} {h = h} proofs grow u) sane k =
    let on : GoesOn g (with_proofs g proofs) = proofs-go_on g sane proofs grow in
    unites-lives p u (proofs-sane g sane proofs grow) (on.proofs p k).0
unites-lives p (drops_left {g = g} {h = h} n s w used lacks at t u) sane k =
    let c : ℕ = (found_entry g p).left in
    let kept : List ℕ = keys_of (found_entry g p).pairs in
    let can = can_drop-left g sane p k in
    let r : lives_in h ≤ lives_in (dropped_state g c kept n w) = unites-lives p u (drop-sane g sane c kept n can at.0 at.1 w t) k in
    let e : lives_in (dropped_state g c kept n w) ≡ lives_in g = drop-lives_same g sane c kept n can w in
    omega arith
unites-lives p (drops_right {g = g} {h = h} n x w all used lacks at t u) sane k =
    let c : ℕ = (found_entry g p).right in
    let kept : List ℕ = keys_of (turned_equation g.nodes (found_entry g p)).pairs in
    let can = can_drop-right g sane p k in
    let r : lives_in h ≤ lives_in (dropped_state g c kept n w) = unites-lives p u (drop-sane g sane c kept n can at.0 at.1 w t) k in
    let e : lives_in (dropped_state g c kept n w) ≡ lives_in g = drop-lives_same g sane c kept n can w in
    omega arith
unites-lives p (left_dies {g = g} n moment w differ all at later t) sane k = link-lives g sane (found_entry g p) n moment (can_link-left g sane p k differ all) w
unites-lives p (right_dies {g = g} n moment w differ all at later t) sane k = link-lives g sane (turned_equation g.nodes (found_entry g p)) n moment (can_link-right g sane p k differ all) w
unites-lives p (lists n same all moves new at) sane k = omega arith
unites-lives p (is_listed y same all c is) sane k = omega arith

turn-lives : {g h : State} → Turn g h → Sane g → lives_in h ≤ lives_in g
turn-lives (enters {g = g} proofs grow t) sane = turn-lives t (proofs-sane g sane proofs grow)
turn-lives (narrows o p s waits used lacks c u) sane = unites-lives p u sane c.stands.0
turn-lives (unites_parents o p r waits there differ same c u) sane = unites-lives p u sane c.stands.0
turn-lives (refiles o waits covered alone) sane = omega arith

act-lives : {g h : State} → Acts g h → Sane g → lives_in h ≤ lives_in g
act-lives (acts y c n u) sane = unites-lives y.proof u sane (sane.each_listed y c).proof

-- in a run live classes never become more
pub run-lives : (f : State) → Sane f → {n : ℕ} {h : State} → Runs f n h → lives_in h ≤ lives_in f
run-lives f sane starts = omega arith
run-lives f sane (takes_turn {n = n} {g = g} {h = h} r t) =
    let k : HasRun f n g = run f sane r in
    let a : lives_in g ≤ lives_in f = run-lives f sane r in
    let b : lives_in h ≤ lives_in g = turn-lives t k.rebuilt.sane in
    omega arith
run-lives f sane (takes_act {n = n} {g = g} {h = h} r t) =
    let k : HasRun f n g = run f sane r in
    let a : lives_in g ≤ lives_in f = run-lives f sane r in
    let b : lives_in h ≤ lives_in g = act-lives t k.rebuilt.sane in
    omega arith

-- nor do their slots, while they are as many
pub run-slots : (f : State) → Sane f → {n : ℕ} {h : State} → Runs f n h → lives_in h ≡ lives_in f → slots_from 0 h.found ≤ slots_from 0 f.found
run-slots f sane {n} {h} r e =
    let s : size h ≤ size f = run-no_larger f sane r in
    let a : size h ≡ lives_in h + slots_from 0 h.found = size-counts 0 h.found in
    let b : size f ≡ lives_in f + slots_from 0 f.found = size-counts 0 f.found in
    omega arith

-- a union never makes live classes more, nor, while they are as many, their slots
pub unites-counts : (p : ℕ) (g h : State) → Unites p g h → Sane g → p < length g.proofs → (lives_from 0 h.found ≤ lives_from 0 g.found) × (lives_from 0 h.found ≡ lives_from 0 g.found → slots_from 0 h.found ≤ slots_from 0 g.found)
unites-counts p g h u sane k = (
  unites-lives p u sane k,
  λ e.
      let a : size h ≤ size g = united-no_larger p g h (unites p u sane k) in
      let b : size g ≡ lives_from 0 g.found + slots_from 0 g.found = size-counts 0 g.found in
      let c : size h ≡ lives_from 0 h.found + slots_from 0 h.found = size-counts 0 h.found in
      omega arith,
)

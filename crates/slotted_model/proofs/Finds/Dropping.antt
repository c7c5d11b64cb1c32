-- A live class drops slots: finds go on as before.
use Rattle.std.proofs.Common.{◌≡◌, ℕ, ◌<◌, List, [], ◌∷◌, Some, length, sym, ◌∙◌, ap, refl, subst, inl, arith}
use Rattle.std.specs.Prelude.{Contains, option_map}
use Rattle.std.specs.List.{cons_option}
use Rattle.std.specs.Map.{keys_of}
use Rattle.slotted_lists.proofs.Contained.{contains_head, contains_tail}
use Rattle.slotted_theory.specs.Nameless.{DTerm}
use Rattle.slotted_theory.specs.FiniteMaps.{value_of}
use Rattle.slotted_model.specs.Classes.{canonical_slots}
use Rattle.slotted_model.specs.Correspondence.{pairs_on, composite, turned, identity, IsPartialInjection, CanJoin}
use Rattle.slotted_model.specs.Find.{Entry, IsLive, used_slots, Linked}
use Rattle.slotted_model.specs.ProofList.{Equation, ProofEntry, turned_equation, IsOver, IsTransitive, equation_at, Exact}
use Rattle.slotted_model.specs.Link.{IsLater, CanDrop, with_slots, kept_equation, Refines}
use Rattle.slotted_model.proofs.Correspondences.PartialInjections.{value_of-in_order, key_in_order, in_order-ext, composite-in_order, composite-partial, identity-pair, identity-both, turned-pair, turned-by, turned-partial}
use Rattle.slotted_model.proofs.Correspondences.Joining.{composite-can_join}
use Rattle.slotted_model.proofs.Finds.NormalIds.{keys-identity, values-identity, used-live}
use Rattle.slotted_model.proofs.Finds.Replacing.{CanReplace, by_entry, at-replaced, replaced-linked, replaced-refines, replaced-exact}

-- the identity turned round is itself
pub turned-identity : (P S : List ℕ) → IsPartialInjection P P (identity S) → turned P (identity S) ≡ identity S
turned-identity P S a = in_order-ext P (turned P (identity S)) (identity S) (turned-partial P P (identity S) a).in_order a.in_order
    (λ t s c. let r = identity-pair S s t (turned-pair P (identity S) s t c) in identity-both S t s (subst (Contains S) r.1 r.0, sym r.1))
    (λ t s c. let r = identity-pair S t s c in turned-by P P (identity S) a s t (identity-both S s t (subst (Contains S) r.1 r.0, sym r.1)))

module _ (nodes : List DTerm) (found : List Entry) (linked : Linked nodes found) (c : ℕ) (slots : List ℕ) (proof : ℕ) (can : CanDrop nodes found c slots) where
  abbrev newer : List Entry
  newer = with_slots found c slots proof

  abbrev pub new_entry : Entry
  new_entry = record { class = c; pairs = identity slots; proof = proof; died = 0 }

  pub kept-partial : IsPartialInjection (canonical_slots nodes c) (canonical_slots nodes c) (identity slots)
  kept-partial = record {
    in_order = can.in_order;
    within = λ s t d. let r = identity-pair slots s t d in subst (Contains (canonical_slots nodes c)) r.1 (key_in_order (canonical_slots nodes c) (identity slots) can.in_order s t d);
    injective = λ s s' t d e. (identity-pair slots s t d).1 ∙ sym (identity-pair slots s' t e).1;
  }

  pub drop-replaces : CanReplace nodes found c new_entry
  drop-replaces = record {
    in_range = can.in_range;
    lives = can.lives;
    class_in_range = can.in_range;
    partial = kept-partial;
    stays = λ p. ap identity (sym (keys-identity slots));
    leads_on = inl refl;
    from = λ t d. can.fewer t (subst (λ S. Contains S t) (values-identity slots) d);
    onto = λ s n d. absurd (n refl);
  }

  pub drop-linked : Linked nodes newer
  drop-linked = replaced-linked nodes found linked c new_entry drop-replaces

  pub drop-refines : Refines nodes found newer
  drop-refines = replaced-refines nodes found linked c new_entry drop-replaces

  -- the class lives on with the slots that it keeps
  pub drop-lives : IsLive newer c
  drop-lives = ap (λ (x : Entry). x.class) (at-replaced nodes found linked c new_entry drop-replaces)

  pub drop-slots : used_slots newer c ≡ slots
  drop-slots = used-live nodes newer drop-linked c can.in_range drop-lives ∙ (ap (λ (x : Entry). keys_of x.pairs) (at-replaced nodes found linked c new_entry drop-replaces) ∙ keys-identity slots)

  -- a moment later than each death stays so
  pub drop-later : (moment : ℕ) → IsLater found moment → IsLater newer moment
  drop-later moment later i h = by_entry nodes found linked c new_entry drop-replaces (λ k x. k < length nodes → ¬ (x.class ≡ k) → x.died < moment)
      (λ k n. absurd (n refl))
      (λ j n k d. later j (let m : length found ≡ length nodes = linked.entries in omega arith) d)
      i (let m : length newer ≡ length nodes = drop-linked.entries in omega arith)

  pub drop-exact : (proofs : List ProofEntry) → proof < length proofs → equation_at proofs proof ≡ record { left = c; right = c; pairs = identity slots } → Exact nodes found proofs → Exact nodes newer proofs
  drop-exact proofs h p exact = replaced-exact nodes found linked c new_entry drop-replaces proofs h
      (p ∙ (λ j. record { left = c; right = c; pairs = sym (turned-identity (canonical_slots nodes c) slots kept-partial) j })) exact

-- forth and back again each slot with a partner stays
composite-back : (A T : List (ℕ × ℕ)) → ((s t : ℕ) → Contains A (s, t) → value_of T t ≡ Some s) → composite A T ≡ identity (keys_of A)
composite-back [] T h = refl
composite-back (p ∷ A) T h =
    let e : value_of T p.1 ≡ Some p.0 = h p.0 p.1 (contains_head p A) in
    λ i. cons_option (option_map (λ u. (p.0, u)) (e i)) (composite-back A T (λ s t c. h s t (contains_tail p A (s, t) c)) i)

-- what an equation says of its left class alone follows from it, by one transitive step there and back
pub kept-composite : (nodes : List DTerm) (e : Equation) → IsOver nodes e → composite e.pairs (turned_equation nodes e).pairs ≡ (kept_equation e).pairs
kept-composite nodes e o =
    let P : List ℕ = canonical_slots nodes e.left in
    let Q : List ℕ = canonical_slots nodes e.right in
    composite-back e.pairs (turned Q e.pairs) (λ s t c. value_of-in_order Q (turned Q e.pairs) (turned-partial P Q e.pairs o.pairs).in_order t s (turned-by P Q e.pairs o.pairs s t c))

pub kept-step : (nodes : List DTerm) (e : Equation) → IsOver nodes e → IsTransitive (kept_equation e) e (turned_equation nodes e)
kept-step nodes e o = record {
  left = refl;
  middle = refl;
  right = refl;
  joins = subst (λ A. CanJoin A e.pairs (turned_equation nodes e).pairs) (kept-composite nodes e o) (composite-can_join e.pairs (turned_equation nodes e).pairs);
}

-- the slots of the left class that have a partner can be kept
pub kept-can_drop : (nodes : List DTerm) (found : List Entry) (e : Equation) → IsOver nodes e → IsLive found e.left → ((s : ℕ) → Contains (keys_of e.pairs) s → Contains (used_slots found e.left) s) → CanDrop nodes found e.left (keys_of e.pairs)
kept-can_drop nodes found e o l h = record {
  in_range = o.left;
  lives = l;
  in_order = subst (λ A. pairs_on (canonical_slots nodes e.left) (value_of A) ≡ A) (kept-composite nodes e o) (composite-in_order (canonical_slots nodes e.left) e.pairs (turned_equation nodes e).pairs o.pairs.in_order);
  fewer = h;
}

pub kept-over : (nodes : List DTerm) (e : Equation) → IsOver nodes e → IsOver nodes (kept_equation e)
kept-over nodes e o =
    let P : List ℕ = canonical_slots nodes e.left in
    let a : IsPartialInjection P P (composite e.pairs (turned_equation nodes e).pairs) =
    composite-partial P (canonical_slots nodes e.right) P e.pairs (turned_equation nodes e).pairs o.pairs (turned-partial P (canonical_slots nodes e.right) e.pairs o.pairs) in
    record { left = o.left; right = o.left; pairs = subst (IsPartialInjection P P) (kept-composite nodes e o) a }

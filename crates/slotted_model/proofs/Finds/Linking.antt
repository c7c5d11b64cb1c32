-- A class dies and leads to another: finds go on as before.
use Rattle.std.proofs.Common.{◌≡◌, ◌≢◌, ℕ, suc, ◌<◌, List, length, sym, ◌∙◌, ap, inr, arith}
use Rattle.slotted_theory.specs.Nameless.{DTerm}
use Rattle.slotted_model.specs.Classes.{canonical_slots}
use Rattle.slotted_model.specs.Correspondence.{composite, turned}
use Rattle.slotted_model.specs.Find.{Entry, entry_at, IsLive, find_class, find_map, Linked}
use Rattle.slotted_model.specs.ProofList.{Equation, ProofEntry, equation_at, Exact}
use Rattle.slotted_model.specs.Link.{CanLink, IsLater, with_link, Refines}
use Rattle.slotted_model.proofs.Correspondences.Pairs.{Contains-key, Contains-of_value}
use Rattle.slotted_model.proofs.Correspondences.PartialInjections.{turned-partial, turned-pair, turned-by, turned-turned}
use Rattle.slotted_model.proofs.Finds.Finding.{find_class-live, find_map-live}
use Rattle.slotted_model.proofs.Finds.Replacing.{CanReplace, by_entry, at-other, live-stays, new_leads, replaced-class, replaced-map, replaced-linked, replaced-refines, replaced-exact}

module _ (nodes : List DTerm) (found : List Entry) (linked : Linked nodes found) (e : Equation) (proof moment : ℕ) (can : CanLink nodes found e) (later : IsLater found moment) where
  abbrev newer : List Entry
  newer = with_link nodes found e proof moment

  abbrev pub link_map : List (ℕ × ℕ)
  link_map = turned (canonical_slots nodes e.right) e.pairs

  abbrev pub new_entry : Entry
  new_entry = record { class = e.right; pairs = link_map; proof = proof; died = moment }

  right-stays : e.right ≢ e.left
  right-stays p = can.different (sym p)

  pub link-replaces : CanReplace nodes found e.left new_entry
  link-replaces = record {
    in_range = can.over.left;
    lives = can.left_lives;
    class_in_range = can.over.right;
    partial = turned-partial (canonical_slots nodes e.left) (canonical_slots nodes e.right) e.pairs can.over.pairs;
    stays = λ p. absurd (right-stays p);
    leads_on = inr (right-stays, can.right_lives, later);
    from = λ t c.
        let r = Contains-of_value link_map t c in
        can.from t (Contains-key e.pairs t r.0 (turned-pair (canonical_slots nodes e.right) e.pairs t r.0 r.1));
    onto = λ s n c.
        let r = Contains-of_value e.pairs s (can.onto s c) in
        Contains-key link_map s r.0 (turned-by (canonical_slots nodes e.left) (canonical_slots nodes e.right) e.pairs can.over.pairs r.0 s r.1);
  }

  right-lives : IsLive newer e.right
  right-lives = live-stays nodes found linked e.left new_entry link-replaces e.right right-stays can.right_lives

  -- the find of the right class is its entry, and that of the left one goes over the link
  pub right-class : find_class newer e.right ≡ e.right
  right-class = find_class-live nodes newer (new_leads nodes found linked e.left new_entry link-replaces) e.right can.over.right right-lives

  pub right-map : find_map newer e.right ≡ (entry_at found e.right).pairs
  right-map = find_map-live nodes newer (new_leads nodes found linked e.left new_entry link-replaces) e.right can.over.right right-lives
      ∙ ap (λ (x : Entry). x.pairs) (at-other nodes found linked e.left new_entry link-replaces e.right right-stays)

  pub left-class : find_class newer e.left ≡ e.right
  left-class = replaced-class nodes found linked e.left new_entry link-replaces ∙ right-class

  pub left-map : find_map newer e.left ≡ composite (entry_at found e.right).pairs link_map
  left-map = replaced-map nodes found linked e.left new_entry link-replaces ∙ ap (λ m. composite m link_map) right-map

  -- the entries lead on as before
  pub link-linked : Linked nodes newer
  link-linked = replaced-linked nodes found linked e.left new_entry link-replaces

  pub link-refines : Refines nodes found newer
  link-refines = replaced-refines nodes found linked e.left new_entry link-replaces

  -- the new entry says what its proof proves
  pub link-exact : (proofs : List ProofEntry) → proof < length proofs → equation_at proofs proof ≡ e → Exact nodes found proofs → Exact nodes newer proofs
  link-exact proofs h p exact = replaced-exact nodes found linked e.left new_entry link-replaces proofs h
      (p ∙ (λ j. record { left = e.left; right = e.right; pairs = sym (turned-turned (canonical_slots nodes e.left) (canonical_slots nodes e.right) e.pairs can.over.pairs) j })) exact

  -- the next moment is later than each death
  pub link-later : IsLater newer (suc moment)
  link-later i h = by_entry nodes found linked e.left new_entry link-replaces (λ k x. k < length nodes → ¬ (x.class ≡ k) → x.died < suc moment)
      (λ k n. omega arith)
      (λ j n k d. let l : (entry_at found j).died < moment = later j (let m : length found ≡ length nodes = linked.entries in omega arith) d in omega arith)
      i (let m : length newer ≡ length nodes = link-linked.entries in omega arith)

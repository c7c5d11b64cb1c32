-- Entries that lead on at once leave what is kept as good as it was, and no class finds anything else.
use Rattle.std.proofs.Common.{◌≡◌, ◌≢◌, ℕ, ◌<◌, ◌≤◌, ◌^◌, List, [], length, set, sym, ◌∙◌, ap, refl, subst, inl, arith}
use Rattle.std.proofs.lemmas.List.{append-nil, get_or-set_same}
use Rattle.slotted_theory.specs.Nameless.{DTerm}
use Rattle.slotted_model.specs.Applied.{Applied}
use Rattle.slotted_model.specs.Changes.{ProofsGrow, StandsAt}
use Rattle.slotted_model.specs.Classes.{canonical_slots}
use Rattle.slotted_model.specs.Find.{Entry, IsLive, entry_at, find_class, find_map}
use Rattle.slotted_model.specs.Link.{IsLater}
use Rattle.slotted_model.specs.Link as model
use Rattle.slotted_model.specs.ProofList.{find_equation}
use Rattle.slotted_model.specs.Rest.{lives_from, slots_from}
use Rattle.slotted_model.specs.Sound.{Sound}
use Rattle.slotted_model.proofs.Rebuilding.Counting.{dead-counts}
use Rattle.slotted_model.proofs.Finds.Finding.{leads, found-live}
use Rattle.slotted_model.proofs.Rebuilding.Quiet.{refound-aligned, refound-on, refound-sane}
use Rattle.slotted_model.proofs.Finds.Shortcuts.{shortcut-later, shortcut-same, shortcut-sound}
use Rattle.slotted_classes.specs.Kept.{Kept, entries_of, find_at, nodes_of, proofs_of, with_shortcut}
use Rattle.slotted_classes.proofs.KeptLists.{entry_at-of, length-entries_of, length-nodes_of}
use Rattle.slotted_classes.proofs.Writes.{written-entries}
use Rattle.slotted_rebuilding.specs.Proving.{HasLargeClassOf, OnlyProves, ProvesFind}
use Rattle.slotted_rebuilding.specs.Shortcuts.{HasLargeFoundClass, LeadsAtOnce, Shortens, ShortensPath}
use Rattle.slotted_classes.specs.StateOf.{state_of}
use Rattle.slotted_classes.specs.Stored.{Stored}
use Rattle.slotted_rebuilding.proofs.ChangedEntries.{changed, changed-grows, changed-stored}
use Rattle.slotted_rebuilding.proofs.EnteredProofs.{grow-then, nothing-proved, only-entries, only-grows, only-nodes, proves-stands}
use Rattle.slotted_rebuilding.proofs.KeptSlots.{grows-then}

-- entries of the proof list that assert nothing shorten no path
pub only-shortens : (k l : Kept) → OnlyProves k l → Shortens k l
only-shortens k l only = record {
  stored = only.stored;
  grows = only-grows k l only;
  symmetries = ap (λ (z : Kept). z.symmetries) only.kept;
  deaths = ap (λ (z : Kept). z.deaths) only.kept;
  dropped = ap (λ (z : Kept). z.dropped) only.kept;
  asserts_nothing = only.asserts_nothing;
  finds = λ i h. (ap (λ found. find_class found i) (only-entries k l only), ap (λ found. find_map found i) (only-entries k l only));
  lives = ap (lives_from 0) (only-entries k l only);
  slots = ap (slots_from 0) (only-entries k l only);
}

pub shortens-same : (k : Kept) → Stored k → Shortens k k
shortens-same k stored = only-shortens k k (nothing-proved k stored)

-- one step after another
pub shortens-then : (k l m : Kept) → Shortens k l → Shortens l m → Shortens k m
shortens-then k l m a b = record {
  stored = b.stored;
  grows = grows-then k l m a.grows b.grows;
  symmetries = b.symmetries ∙ a.symmetries;
  deaths = b.deaths ∙ a.deaths;
  dropped = b.dropped ∙ a.dropped;
  asserts_nothing = grow-then (nodes_of k) (proofs_of k) (proofs_of l) (proofs_of m) a.asserts_nothing
      (subst (λ ns. ProofsGrow ns (proofs_of l) (proofs_of m)) a.grows.nodes b.asserts_nothing);
  finds = λ i h.
      let f = a.finds i h in
      let g = b.finds i (omega (arith, h, ap length a.grows.nodes, length-nodes_of k, length-nodes_of l)) in
      (g.0 ∙ f.0, g.1 ∙ f.1);
  lives = b.lives ∙ a.lives;
  slots = b.slots ∙ a.slots;
}

-- the entry of the dead class i leads at once to what it finds, by the entry p of the proof list
module _ (k : Kept) (good : Stored k) (i : ℕ) (within : i < length k.classes) (dead : ¬ IsLive (entries_of k) i)
    (p : ℕ) (stands : StandsAt (state_of k) p (find_equation (nodes_of k) (entries_of k) i)) where
  abbrev nodes : List DTerm
  nodes = nodes_of k

  abbrev old : List Entry
  old = entries_of k

  abbrev x : Entry
  x = record { class = find_class old i; pairs = find_map old i; proof = p; died = (find_at k i).died }

  abbrev found : List Entry
  found = set old i x

  abbrev shortened : Kept
  shortened = changed k good i x k.dropped k.moment k.deaths

  inside : i < length nodes
  inside = omega (arith, within, length-nodes_of k)

  -- the entry of the model
  found-is : model.with_shortcut old i p ≡ found
  found-is = ap (λ (e : Entry). set old i (record { class = find_class old i; pairs = find_map old i; proof = p; died = e.died })) (entry_at-of k i)

  sound : Sound nodes found (proofs_of k)
  sound = subst (λ es. Sound nodes es (proofs_of k)) found-is (shortcut-sound nodes old (proofs_of k) i p good.sane.sound inside dead stands.0 stands.1)

  same : (j : ℕ) → j < length nodes → (find_class found j ≡ find_class old j) × (find_map found j ≡ find_map old j)
  same j h = subst (λ es. (find_class es j ≡ find_class old j) × (find_map es j ≡ find_map old j)) found-is
      (shortcut-same nodes old good.sane.sound.linked i p inside dead j h)

  -- what it finds lives
  leads-on : IsLive old (find_class old i)
  leads-on = found-live nodes old (leads nodes old good.sane.sound.linked) i inside

  differs : find_class old i ≢ i
  differs e = dead (subst (IsLive old) e leads-on)

  counts : (lives_from 0 found ≡ lives_from 0 old) × (slots_from 0 found ≡ slots_from 0 old)
  counts = dead-counts i old x (omega (arith, within, length-entries_of k)) dead differs

  shortened-stored : Stored shortened
  shortened-stored = changed-stored k good i x k.dropped k.moment k.deaths
      (refound-sane (state_of k) good.sane found sound same)
      (refound-on (state_of k) good.sane found sound same)
      (subst (λ es. IsLater es k.moment) found-is (shortcut-later nodes old good.sane.sound.linked i p inside dead k.moment good.later))
      (λ d y c. refound-aligned (state_of k) good.sane found sound same y (good.sane.each_listed y c).in_range (good.settled d y c))

  shortened-shortens : Shortens k shortened
  shortened-shortens = record {
    stored = shortened-stored;
    grows = changed-grows k good i x k.dropped k.moment k.deaths [] (sym (append-nil k.deaths));
    symmetries = refl;
    deaths = refl;
    dropped = refl;
    asserts_nothing = subst (λ ns. ProofsGrow ns (proofs_of k) (proofs_of k)) refl (nothing-proved k good).asserts_nothing;
    finds = λ j h. subst (λ es. (find_class es j ≡ find_class old j) × (find_map es j ≡ find_map old j)) (sym (written-entries k i x))
        (same j (omega (arith, h, length-nodes_of k)));
    lives = ap (lives_from 0) (written-entries k i x) ∙ counts.0;
    slots = ap (slots_from 0) (written-entries k i x) ∙ counts.1;
  }

  -- and it leads to a live class
  new-entry : entry_at found i ≡ x
  new-entry = get_or-set_same old i x (record { class = 0; pairs = []; proof = 0; died = 0 }) (omega (arith, within, length-entries_of k))

  leads-now : IsLive found (entry_at found i).class
  leads-now =
      let live : IsLive found (find_class found i) = found-live nodes found (leads nodes found sound.linked) i inside in
      subst (IsLive found) ((same i inside).0 ∙ sym (ap (λ (e : Entry). e.class) new-entry)) live

  -- by the code's words
  pub shortcut-shortens : (a : Applied) → a ≡ (find_class old i, find_map old i) → (l : Kept) → l ≡ with_shortcut k i a.0 a.1 p → ShortensPath k l i
  shortcut-shortens a ea l el =
      subst (λ (z : Kept). ShortensPath k z i) (sym (el ∙ (λ j. with_shortcut k i (ea j).0 (ea j).1 p))) (record {
        shortens = shortened-shortens;
        at_once = subst (λ es. IsLive es (entry_at es i).class) (sym (written-entries k i x)) leads-now;
      })

-- a class that does not lead to a live one is dead
pub once-live : (k : Kept) (i : ℕ) → ¬ LeadsAtOnce k i → ¬ IsLive (entries_of k) i
once-live k i n live = n (subst (IsLive (entries_of k)) (sym live) live)

-- it finds another one
pub found-differs : (k : Kept) → Stored k → (i : ℕ) → i < length k.classes → ¬ IsLive (entries_of k) i → find_class (entries_of k) i ≢ i
found-differs k good i within dead e =
    let links = leads (nodes_of k) (entries_of k) good.sane.sound.linked in
    dead (subst (IsLive (entries_of k)) e (found-live (nodes_of k) (entries_of k) links i (omega (arith, within, length-nodes_of k))))

-- once what a class finds was proved, its path can be shortened
pub shortened-after : (k : Kept) → Stored k → (i : ℕ) → i < length k.classes → ¬ IsLive (entries_of k) i → (l : Kept) (p : ℕ) → ProvesFind k l i p →
    (a : Applied) → a ≡ (find_class (entries_of k) i, find_map (entries_of k) i) → (m : Kept) → m ≡ with_shortcut l i a.0 a.1 p → ShortensPath k m i
shortened-after k good i within dead l p proves a ea m em =
    let only = proves.only in
    let found : entries_of l ≡ entries_of k = only-entries k l only in
    let count : i < length l.classes = subst (λ (z : Kept). i < length z.classes) (sym only.kept) within in
    let still : ¬ IsLive (entries_of l) i = λ live. dead (subst (λ es. IsLive es i) found live) in
    let stands : StandsAt (state_of l) p (find_equation (nodes_of l) (entries_of l) i) =
    subst (λ ns. StandsAt (state_of l) p (find_equation ns (entries_of l) i)) (sym (only-nodes k l only))
    (subst (λ es. StandsAt (state_of l) p (find_equation (nodes_of k) es i)) (sym found) (proves-stands k l (find_equation (nodes_of k) (entries_of k) i) p proves)) in
    let path : ShortensPath l m i = shortcut-shortens l only.stored i count still p stands a (ea ∙ ap (λ es. (find_class es i, find_map es i)) (sym found)) m em in
    record { shortens = shortens-then k l m (only-shortens k l only) path.shortens; at_once = path.at_once }

-- a class is large wherever paths are shortened
pub large-before : (k l : Kept) → Shortens k l → (a b : ℕ) → HasLargeClassOf l a b → HasLargeFoundClass k
large-before k l s a b h =
    let n : length (nodes_of l) ≡ length (nodes_of k) = ap length s.grows.nodes in (
      h.0,
      (h.0, omega (arith, h.1, n, length-nodes_of k, length-nodes_of l), inl refl, subst (λ ns. 2 ^ 29 ≤ length (canonical_slots ns h.0)) s.grows.nodes h.3),
    )

-- The end of a turn: the class that waited first waits no more, and its node is filed anew or not at all.
use Rattle.std.proofs.Common.{◌≡◌, ◌≢◌, ℕ, suc, zero, ◌<◌, List, [], ◌∷◌, Some, length, ap, ◌∙◌, sym, subst, refl, inl, inr, arith}
use Rattle.std.specs.Prelude.{Contains, Option, None, set}
use Rattle.std.proofs.lemmas.Bool.{cases_eq}
use Rattle.std.proofs.lemmas.List.{get_or-set_same, get_or-set_other, length-set}
use Rattle.std.proofs.lemmas.Option.{none-some}
use Rattle.slotted_lists.proofs.Options.{Some-same}
use Rattle.slotted_nodes.specs.Form.{Form}
use Rattle.slotted_theory.specs.Shape as theory
use Rattle.slotted_languages.specs.NodeTerm.{nameless_node}
use Rattle.slotted_model.specs.Correspondence.{AllDifferent}
use Rattle.slotted_model.specs.Rebuild.{IsCongruence, IsCovered, Turn, refiled_state, removed_state, row_for, with_row, without, without_row, starts, takes_turn, refiles, unites_parents}
use Rattle.slotted_model.specs.Rest.{Sane}
use Rattle.slotted_model.specs.State.{Row, State, normal_node}
use Rattle.slotted_hashcons.specs.FoundNodes.{HasNoMorePlaces, finds_of}
use Rattle.slotted_classes.specs.Kept.{Kept}
use Rattle.slotted_hashcons.specs.Filed.{Filing, filed_of}
use Rattle.slotted_hashcons.specs.FiledRows.{Rows, rows_in, row_of_entry, TakesTurn}
use Rattle.slotted_hashcons.proofs.FiledRows.{row-filed, rows-removed, rows-refiled, without-front}
use Rattle.slotted_rebuilding.specs.Proving.{OnlyProves}
use Rattle.slotted_classes.specs.StateOf.{state_with}
use Rattle.slotted_rebuilding.proofs.EnteredProofs.{only-grows, nothing-proved}
use Rattle.slotted_rebuilding.proofs.KeptSlots.{grows-then}
use Rattle.slotted_hashcons.specs.WellFiled.{state_in, IsWellFiled, IsKeyed}
use Rattle.slotted_rebuilding.specs.Filed.{UnitesFiled}
use Rattle.slotted_rebuilding.specs.Turns.{ProvesCongruence, TakesTurns}
use Rattle.slotted_rebuilding.proofs.CongruenceEntries.{proved-well, proved-turn, congruence-in, stands-within}
use Rattle.slotted_rebuilding.proofs.FiledStates.{united-well}
use Rattle.slotted_rebuilding.proofs.Runs.{turn-sane}

-- the rows and what waits where the node is filed no more
pub removed-state : (n : Kept) (q s : Rows) (o : ℕ) → AllDifferent q.waiting → TakesTurn q s o None → state_in n s ≡ removed_state (state_in n q) o
removed-state n q s o once t =
    let rows : rows_in s.filed ≡ without_row o (rows_in q.filed) = ap rows_in t.filed ∙ rows-removed q.filed o in
    let waits : s.waiting ≡ without o q.waiting = sym (without-front o q.waiting s.waiting t.waiting once) in
    λ i. state_with n (rows i) (waits i)

-- and where it is filed anew
pub refiled-state : (k : Kept) (r s : Rows) (o : ℕ) (f : Form) (m : List (ℕ × ℕ)) (e : Filing) → AllDifferent r.waiting → filed_of r.filed o ≡ Some e → TakesTurn r s o (Some (f, m)) →
    row_of_entry (f, (o, m)) ≡ row_for (finds_of k) o → state_in k s ≡ refiled_state (state_in k r) o
refiled-state k r s o f m e once filed t row =
    let rows : rows_in s.filed ≡ with_row (row_for (finds_of k) o) (rows_in r.filed) =
    ap rows_in t.filed ∙ (rows-refiled r.filed o e f m filed ∙ ap (λ x. with_row x (rows_in r.filed)) row) in
    let waits : s.waiting ≡ without o r.waiting = sym (without-front o r.waiting s.waiting t.waiting once) in
    λ i. state_with k (rows i) (waits i)

-- what is filed of another class stays
pub filed-other : (v : List (Option Filing)) (o i : ℕ) (x : Option Filing) → i ≢ o → filed_of (set v o x) i ≡ filed_of v i
filed-other v o i x differ = get_or-set_other v o i x None differ

-- nothing is filed of the class any more
filed-none : (v : List (Option Filing)) (o : ℕ) → filed_of (set v o None) o ≡ None
filed-none [] o = refl
filed-none (x ∷ v) zero = refl
filed-none (x ∷ v) (suc o) = filed-none v o

each-removed : (P : ℕ → Filing → Type 0) (v : List (Option Filing)) (o : ℕ) → ((i : ℕ) (e : Filing) → filed_of v i ≡ Some e → P i e) → (i : ℕ) (e : Filing) → filed_of (set v o None) i ≡ Some e → P i e
each-removed P v o each i e f = elim (cases_eq i o) [
  | inl same ↦ absurd (none-some e (sym (filed-none v o) ∙ (ap (filed_of (set v o None)) (sym same) ∙ f)))
  | inr differ ↦ each i e (sym (filed-other v o i None differ) ∙ f)
]

pub each-refiled : (P : ℕ → Filing → Type 0) (v : List (Option Filing)) (o : ℕ) (x : Filing) → o < length v → P o x → ((i : ℕ) (e : Filing) → filed_of v i ≡ Some e → P i e) →
    (i : ℕ) (e : Filing) → filed_of (set v o (Some x)) i ≡ Some e → P i e
each-refiled P v o x within new each i e f = elim (cases_eq i o) [
  | inl same ↦
      let is : x ≡ e = Some-same x e (sym (get_or-set_same v o (Some x) None within) ∙ (ap (filed_of (set v o (Some x))) (sym same) ∙ f)) in
      subst (λ n. P n e) (sym same) (subst (P o) is new)
  | inr differ ↦ each i e (sym (filed-other v o i (Some x) differ) ∙ f)
]

-- what a turn leaves is well filed
turned-well : (g : State) (l : Kept) (q s : Rows) → Sane g → Turn g (state_in l s) → IsWellFiled l q → length s.filed ≡ length q.filed →
    ((i : ℕ) (e : Filing) → filed_of s.filed i ≡ Some e → IsKeyed e) → ((i : ℕ) (e : Filing) → filed_of s.filed i ≡ Some e → HasNoMorePlaces l i e.0) → IsWellFiled l s
turned-well g l q s sane turn well count keyed places = record {
  stored = well.stored;
  canonical = well.canonical;
  fits = well.fits;
  count = count ∙ well.count;
  sane = turn-sane g (state_in l s) sane turn;
  keyed = keyed;
  places = places;
}

-- the class was united with one of which the shape of its node is filed, and its own node is filed no more
pub collides : (k m l : Kept) (r q s : Rows) (o other p : ℕ) → IsWellFiled k r → Contains r.waiting o → other ≢ o → (e : Filing) → filed_of r.filed other ≡ Some e →
    theory.shape (nameless_node e.0) ≡ theory.shape (normal_node (finds_of k) o) → ProvesCongruence k m o other p → UnitesFiled p m r l q → TakesTurn q s o None → TakesTurns k r l s
collides k m l r q s o other p well waits differ e filed shape proved u t =
    let only : OnlyProves k m = proved.only in
    let here : IsWellFiled m r = proved-well k m r only well in
    let row : Row = row_of_entry (e.0, (other, e.1)) in
    let c : IsCongruence (state_in m r) p o other = congruence-in m r p o other proved.congruence in
    let after : IsWellFiled l q = united-well p m r l q here (stands-within m r p o other c) u in
    let alike : theory.shape (nameless_node e.0) ≡ theory.shape (normal_node (finds_of m) o) = subst (λ (z : Kept). theory.shape (nameless_node e.0) ≡ theory.shape (normal_node (finds_of z) o)) (sym only.kept) shape in
    let turn : Turn (state_in m r) (removed_state (state_in l q) o) = unites_parents o p row waits (row-filed r.filed other e.0 e.1 filed) differ alike c u.unites in
    let goes : Turn (state_in m r) (state_in l s) = subst (Turn (state_in m r)) (sym (removed-state l q s o after.sane.filed.waits_once t)) turn in
    let count : length s.filed ≡ length q.filed = ap length t.filed ∙ length-set q.filed o None in
    record {
      turns = 1;
      some = omega arith;
      runs = takes_turn starts (proved-turn k m r only (state_in l s) goes);
      filed = turned-well (state_in m r) l q s here.sane goes after count
          (λ i x f. each-removed (λ n. IsKeyed) q.filed o after.keyed i x (subst (λ v. filed_of v i ≡ Some x) t.filed f))
          (λ i x f. each-removed (λ n y. HasNoMorePlaces l n y.0) q.filed o after.places i x (subst (λ v. filed_of v i ≡ Some x) t.filed f));
      grows = grows-then k m l (only-grows k m only) u.by.grows;
    }

-- no other class has the key, and the node is filed by it
pub refiles-node : (k : Kept) (r s : Rows) (o : ℕ) (f : Form) (m : List (ℕ × ℕ)) (e : Filing) → IsWellFiled k r → Contains r.waiting o → filed_of r.filed o ≡ Some e → o < length r.filed → IsKeyed (f, m) → HasNoMorePlaces k o f →
    row_of_entry (f, (o, m)) ≡ row_for (finds_of k) o → IsCovered (finds_of k) o → ((x : Row) → Contains (rows_in r.filed) x → x.source ≢ o → x.shape ≢ theory.shape (normal_node (finds_of k) o)) →
    TakesTurn r s o (Some (f, m)) → TakesTurns k r k s
refiles-node k r s o f m e well waits filed within key places row covered others t =
    let turn : Turn (state_in k r) (refiled_state (state_in k r) o) = refiles o waits covered others in
    let goes : Turn (state_in k r) (state_in k s) = subst (Turn (state_in k r)) (sym (refiled-state k r s o f m e well.sane.filed.waits_once filed t row)) turn in
    let count : length s.filed ≡ length r.filed = ap length t.filed ∙ length-set r.filed o (Some (f, m)) in
    record {
      turns = 1;
      some = omega arith;
      runs = takes_turn starts goes;
      filed = turned-well (state_in k r) k r s well.sane goes well count
          (λ i x h. each-refiled (λ n. IsKeyed) r.filed o (f, m) within key well.keyed i x (subst (λ v. filed_of v i ≡ Some x) t.filed h))
          (λ i x h. each-refiled (λ n y. HasNoMorePlaces k n y.0) r.filed o (f, m) within places well.places i x (subst (λ v. filed_of v i ≡ Some x) t.filed h));
      grows = only-grows k k (nothing-proved k well.stored);
    }

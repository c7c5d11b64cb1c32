-- The newest class: its place among the filed nodes, and how it is united with another class, or filed.
use Rattle.std.proofs.Common.{◌≡◌, ◌<◌, ◌+◌, ℕ, suc, List, [], ◌∷◌, ◌++◌, Some, length, length-append, ap, ◌∙◌, sym, subst, refl, inl, inr, arith}
use Rattle.std.specs.Prelude.{Contains, Option, None, set}
use Rattle.std.proofs.lemmas.List.{get_or-set_same, length-set}
use Rattle.std.proofs.lemmas.Option.{none-some}
use Rattle.slotted_lists.proofs.Contained.{Contains-nil}
use Rattle.slotted_theory.specs.Nameless.{DTerm}
use Rattle.slotted_theory.specs.Shape as theory
use Rattle.slotted_nodes.specs.Form.{Form}
use Rattle.slotted_languages.specs.Shape.{Fits}
use Rattle.slotted_model.specs.Adding.{Adds, joins_row, files_row, with_new_class, with_new_row, with_quiet_row}
use Rattle.slotted_model.specs.Changes.{ProofsGrow, Unites, with_proofs}
use Rattle.slotted_model.specs.ProofList.{ProofEntry}
use Rattle.slotted_model.specs.Rebuild.{HasNothingLeft, IsCongruence, IsCovered, Runs, row_for}
use Rattle.slotted_model.specs.Rest.{Sane}
use Rattle.slotted_model.specs.State.{Row, State, sources, normal_node}
use Rattle.slotted_model.proofs.Rebuilding.QuietTurns.{quiet-run}
use Rattle.slotted_model.proofs.Rebuilding.Rows.{source-in}
use Rattle.slotted_classes.specs.Kept.{Kept, nodes_of, proofs_of, size_of}
use Rattle.slotted_classes.proofs.KeptLists.{length-nodes_of}
use Rattle.slotted_hashcons.specs.Filed.{Filing, IsNewKey, filed_of}
use Rattle.slotted_hashcons.specs.FiledRows.{IsFiled, QueuesUp, Rows, row_of_entry, rows_in, with_class, with_filed}
use Rattle.slotted_hashcons.proofs.FiledRows.{row-filed, rows-added, rows-added_filed, source-filed}
use Rattle.slotted_hashcons.proofs.Indexed.{place-added}
use Rattle.slotted_hashcons.specs.FoundNodes.{HasNoMorePlaces, IsFoundNode, finds_of}
use Rattle.slotted_rebuilding.specs.Proving.{OnlyProves}
use Rattle.slotted_classes.specs.StateOf.{state_with}
use Rattle.slotted_rebuilding.proofs.EnteredProofs.{only-grows, only-state, nothing-proved}
use Rattle.slotted_rebuilding.proofs.KeptSlots.{grows-then, uncounted-then}
use Rattle.slotted_rebuilding.specs.Counted.{CountsFit, CountsGo, TotalsFit}
use Rattle.slotted_hashcons.specs.WellFiled.{state_in, IsKeyed, IsWellFiled}
use Rattle.slotted_rebuilding.specs.Filed.{UnitesFiled}
use Rattle.slotted_rebuilding.specs.NewClasses.{BeginsAdding, FilesNewest, HasNewest, IsUnfiled}
use Rattle.slotted_rebuilding.specs.Turns.{ProvesCongruence, Rebuilds, SharesKey}
use Rattle.slotted_rebuilding.proofs.Collisions.{found-shape, has-key}
use Rattle.slotted_rebuilding.proofs.RebuildCounts.{rebuild-fits}
use Rattle.slotted_rebuilding.proofs.CongruenceEntries.{congruence-in, proved-well, stands-within}
use Rattle.slotted_rebuilding.proofs.FiledStates.{united-well}
use Rattle.slotted_rebuilding.proofs.NormalNodes.{filed-places}
use Rattle.slotted_rebuilding.proofs.NewRows.{HasNoTwinRow, new_row-sane}
use Rattle.slotted_rebuilding.proofs.Runs.{runs-join, runs-sane}
use Rattle.slotted_rebuilding.proofs.TurnEnds.{each-refiled}

-- there is a place more, where nothing is filed

added-state : (k : Kept) (r : Rows) → state_in k (with_class r) ≡ state_in k r
added-state k r = ap (λ rows. state_with k rows r.waiting) (rows-added r.filed)

added-well : (k : Kept) (r : Rows) → IsUnfiled k r → IsWellFiled k (with_class r)
added-well k r u = record {
  stored = u.stored;
  canonical = u.canonical;
  fits = u.fits;
  count = let c : length k.classes ≡ suc (length r.filed) = u.count in omega (arith, c, length-append r.filed (None ∷ []));
  sane = subst Sane (sym (added-state k r)) u.sane;
  keyed = λ i e f. u.keyed i e (sym (place-added r.filed i) ∙ f);
  places = λ i e f. u.places i e (sym (place-added r.filed i) ∙ f);
}

pub newest-added : (k : Kept) (r s : Rows) (o : ℕ) → IsUnfiled k r → o ≡ length r.filed → s ≡ with_class r → HasNewest k s o
newest-added k r s o u number is = record {
  older = r;
  number = number;
  is = is;
  filed = subst (IsWellFiled k) (sym is) (added-well k r u);
  quiet = ap (λ (x : Rows). x.waiting) is ∙ u.quiet;
}

-- after all is rebuilt
pub files-newest : (k : Kept) (r s : Rows) (l : Kept) (q : Rows) (n : Kept) (t : Rows) (turns : ℕ) → s ≡ with_class r → BeginsAdding k s l q → Rebuilds l q n t turns → FilesNewest k r n t
files-newest k r s l q n t turns is begun rebuilt = record {
  adds = λ g c e. begun.begins g c (ap (state_in k) is ∙ (added-state k r ∙ e)) rebuilt.turns (state_in n t) rebuilt.runs rebuilt.nothing_left;
  filed = rebuilt.filed;
  quiet = rebuilt.nothing_left.0;
  settled = rebuilt.settled;
  grows = uncounted-then k l n begun.grows rebuilt.grows;
  counts = subst (λ c. TotalsFit c → CountsGo c n.counts × CountsFit n.counts (size_of n)) begun.grows.counts (rebuild-fits l q n turns rebuilt.notes);
}

-- a class is made, where what is done for it does not say which state was before

pub record JoinsRow (g : State) (o : ℕ) (f : State) : Type 0 where
  pub proofs : List ProofEntry
  pub number : ℕ
  pub row : Row
  pub grow : ProofsGrow g.nodes g.proofs proofs
  pub filed : Contains g.rows row
  pub alike : row.shape ≡ theory.shape (normal_node g o)
  pub congruence : IsCongruence (with_proofs g proofs) number o row.source
  pub unites : Unites number (with_proofs g proofs) f

pub record FilesRow (g : State) (o n : ℕ) (h : State) : Type 0 where
  pub alone : HasNoTwinRow g o
  pub runs : Runs (with_new_row g o) n h

module _ (f : State) (o : ℕ) (g : State) (c : DTerm) (e : f ≡ with_new_class g c) (last : o ≡ length g.nodes) where
  joins : (m : State) → JoinsRow f o m → (n : ℕ) (h : State) → Runs m n h → HasNothingLeft h → Adds g c h
  joins m j n h runs left =
      let w : JoinsRow (with_new_class g c) (length g.nodes) m = subst (λ x. JoinsRow x (length g.nodes) m) e (subst (λ i. JoinsRow f i m) last j) in
      joins_row w.proofs w.number w.row w.grow w.filed w.alike w.congruence w.unites runs left

  files : (n : ℕ) (h : State) → FilesRow f o n h → HasNothingLeft h → Adds g c h
  files n h j left =
      let w : FilesRow (with_new_class g c) (length g.nodes) n h = subst (λ x. FilesRow x (length g.nodes) n h) e (subst (λ i. FilesRow f i n h) last j) in
      files_row w.alone w.runs left

past-end : (v : List (Option Filing)) → filed_of v (length v) ≡ None
past-end [] = refl
past-end (x ∷ v) = past-end v

module _ (k : Kept) (r : Rows) (o : ℕ) (newest : HasNewest k r o) where
  abbrev before : List (Option Filing)
  before = newest.older.filed

  places : length r.filed ≡ suc o
  places =
      let a : length r.filed ≡ length (before ++ None ∷ []) = ap (λ (x : Rows). length x.filed) newest.is in
      let n : o ≡ length before = newest.number in
      omega (arith, a, n, length-append before (None ∷ []))

  pub newest-place : o < length r.filed
  newest-place = let a : length r.filed ≡ suc o = places in omega (arith, a)

  pub newest-within : o < length k.classes
  newest-within = subst (λ n. o < n) newest.filed.count newest-place

  pub newest-unfiled : filed_of r.filed o ≡ None
  newest-unfiled = ap (λ (x : Rows). filed_of x.filed o) newest.is ∙ (place-added before o ∙ (ap (filed_of before) newest.number ∙ past-end before))

  no-row : ¬ Contains (sources (rows_in r.filed)) o
  no-row c = let e = (source-filed r.filed o).0 c in none-some e.0 (sym newest-unfiled ∙ e.1)

  -- it is the last one of a state in which it was made
  last : (g : State) (c : DTerm) → state_in k r ≡ with_new_class g c → o ≡ length g.nodes
  last g c e =
      let a : length (nodes_of k) ≡ length (g.nodes ++ c ∷ []) = ap (λ (x : State). length x.nodes) e in
      let b : length (nodes_of k) ≡ length k.classes = length-nodes_of k in
      let d : length r.filed ≡ length k.classes = newest.filed.count in
      let p : length r.filed ≡ suc o = places in
      omega (arith, a, b, d, p, length-append g.nodes (c ∷ []))

  -- it was united with the class that has its key
  pub joined : (m l : Kept) (q : Rows) (slots : List (ℕ × ℕ)) (other p : ℕ) → SharesKey k r o slots other → ProvesCongruence k m o other p → UnitesFiled p m r l q → BeginsAdding k r l q
  joined m l q slots other p s proved u =
      let only : OnlyProves k m = proved.only in
      let row : Row = row_of_entry (s.key, (other, s.filed.0)) in
      let c : IsCongruence (state_in m r) p o other = congruence-in m r p o other proved.congruence in
      let same : state_in m r ≡ with_proofs (state_in k r) (proofs_of m) = only-state k m only (rows_in r.filed) r.waiting in
      let j : JoinsRow (state_in k r) o (state_in l q) = record {
        proofs = proofs_of m;
        number = p;
        row = row;
        grow = only.asserts_nothing;
        filed = row-filed r.filed other s.key s.filed.0 s.filed.1;
        alike = found-shape k o s.key slots s.node;
        congruence = subst (λ g. IsCongruence g p o other) same c;
        unites = subst (λ g. Unites p g (state_in l q)) same u.unites;
      } in
      record {
        begins = λ g d e n h runs left. joins (state_in k r) o g d e (last g d e) (state_in l q) j n h runs left;
        filed = united-well p m r l q (proved-well k m r only newest.filed) (stands-within m r p o other c) u;
        grows = grows-then k m l (only-grows k m only) u.by.grows;
      }

  -- its node is filed by its key
  module _ (key : Form) (slots : List (ℕ × ℕ)) (fits : Fits key) (node : IsFoundNode k o key slots) (new : IsNewKey r.filed key) where
    alone : HasNoTwinRow (state_in k r) o
    alone x c e = new x.source (has-key k r o key slots newest.filed fits node x c e)

    sane : Sane (with_new_row (state_in k r) o)
    sane =
        let h : o < length k.classes = newest-within in
        let b : length (nodes_of k) ≡ length k.classes = length-nodes_of k in
        new_row-sane (state_in k r) newest.filed.sane o (omega (arith, h, b)) no-row alone

    rows : rows_in (set r.filed o (Some (key, slots))) ≡ row_for (finds_of k) o ∷ rows_in r.filed
    rows =
        let there : rows_in before ≡ rows_in r.filed = sym (rows-added before) ∙ ap (λ (x : Rows). rows_in x.filed) (sym newest.is) in
        (λ i. rows_in (set (newest.is i).filed (newest.number i) (Some (key, slots))))
        ∙ (rows-added_filed before key slots
        ∙ ((λ i. row_of_entry (key, (sym newest.number i, slots)) ∷ there i) ∙ ap (λ x. x ∷ rows_in r.filed) node.row))

    filed-well : (s : Rows) → s.filed ≡ set r.filed o (Some (key, slots)) → Sane (state_in k s) → IsWellFiled k s
    filed-well s e t = record {
      stored = newest.filed.stored;
      canonical = newest.filed.canonical;
      fits = newest.filed.fits;
      count = ap length e ∙ (length-set r.filed o (Some (key, slots)) ∙ newest.filed.count);
      sane = t;
      keyed = λ i x f.
          each-refiled (λ n. IsKeyed) r.filed o (key, slots) newest-place (record { fits = fits; itself = node.itself; numbers = node.numbers }) newest.filed.keyed i x (subst (λ v. filed_of v i ≡ Some x) e f);
      places = λ i x f.
          each-refiled (λ n y. HasNoMorePlaces k n y.0) r.filed o (key, slots) newest-place (filed-places k r o newest.filed newest-within key slots fits node) newest.filed.places i x
          (subst (λ v. filed_of v i ≡ Some x) e f);
    }

    pub is-filed : (s : Rows) → s ≡ with_filed r o key slots → IsFiled s.filed o
    is-filed s e = ((key, slots), ap (λ (x : Rows). filed_of x.filed o) e ∙ get_or-set_same r.filed o (Some (key, slots)) None newest-place)

    -- and does not wait: the turn that it would take changes nothing
    pub filed-quietly : (s : Rows) → s ≡ with_filed r o key slots → IsCovered (finds_of k) o → BeginsAdding k r k s
    filed-quietly s e covered =
        let quiet : state_in k s ≡ with_quiet_row (state_in k r) o = ap (state_in k) e ∙ ap (λ x. state_with k x r.waiting) rows in
        let run : Runs (with_new_row (state_in k r) o) 1 (state_in k s) =
        subst (Runs (with_new_row (state_in k r) o) 1) (sym quiet)
        (quiet-run (state_in k r) o covered (λ x c d. no-row (subst (Contains (sources (rows_in r.filed))) d (source-in (rows_in r.filed) x c))) alone
        (λ c. Contains-nil o (subst (λ w. Contains w o) newest.quiet c))) in
        record {
          begins = λ g d i n h runs left.
              files (state_in k r) o g d i (last g d i) (1 + n) h (record { alone = alone; runs = runs-join (with_new_row (state_in k r) o) (state_in k s) h 1 n run runs }) left;
          filed = filed-well s (ap (λ (x : Rows). x.filed) e) (runs-sane (with_new_row (state_in k r) o) (state_in k s) 1 sane run);
          grows = only-grows k k (nothing-proved k newest.filed.stored);
        }

    -- or waits
    pub filed-waiting : (s t : Rows) → s ≡ with_filed r o key slots → QueuesUp s t o → BeginsAdding k r k t
    filed-waiting s t e queued =
        let empty : s.waiting ≡ [] = ap (λ (x : Rows). x.waiting) e ∙ newest.quiet in
        let now : (t.filed ≡ s.filed) × (t.waiting ≡ o ∷ []) = elim queued [
          | inl h ↦ absurd (Contains-nil o (subst (λ w. Contains w o) empty h.0))
          | inr h ↦ (ap (λ (x : Rows). x.filed) h.1, ap (λ (x : Rows). x.waiting) h.1 ∙ ap (λ w. w ++ o ∷ []) empty)
        ] in
        let filed : t.filed ≡ set r.filed o (Some (key, slots)) = now.0 ∙ ap (λ (x : Rows). x.filed) e in
        let waits : t.waiting ≡ o ∷ r.waiting = now.1 ∙ ap (λ w. o ∷ w) (sym newest.quiet) in
        let there : rows_in t.filed ≡ row_for (finds_of k) o ∷ rows_in r.filed = ap rows_in filed ∙ rows in
        let same : state_in k t ≡ with_new_row (state_in k r) o = λ i. state_with k (there i) (waits i) in
        record {
          begins = λ g d i n h runs left. files (state_in k r) o g d i (last g d i) n h (record { alone = alone; runs = subst (λ x. Runs x n h) same runs }) left;
          filed = filed-well t filed (subst Sane (sym same) sane);
          grows = only-grows k k (nothing-proved k newest.filed.stored);
        }

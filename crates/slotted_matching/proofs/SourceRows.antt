-- The sources of classes, and the rows of sources.
use Rattle.std.proofs.Common.{◌≡◌, ◌≢◌, ℕ, zero, suc, ◌+◌, ◌<◌, List, [], ◌∷◌, ◌++◌, length, take, Option, Some, None, Bool, true, false, cond, sym, ◌∙◌, ap, refl, subst, inl, inr, arith, get_or, get_or-set_same, get_or-set_other, append_assoc, length-append}
use Rattle.std.specs.Prelude.{All, is_some, nat_eq, set, slice_index_or, ◌&&◌, filter}
use Rattle.std.specs.List.{range_with_len}
use Rattle.std.proofs.lemmas.Bool.{cases_eq, cases_lt, eq-eqb, eqb-true, ne_eqb, false≢true}
use Rattle.std.proofs.lemmas.List.{take_more}
use Rattle.std.proofs.lemmas.List.Elements.{Contains-get_or}
use Rattle.std.proofs.Math.ListN.{length-set}
use Rattle.slotted_lists.proofs.Members.{In, In-Contains}
use Rattle.slotted_lists.proofs.Booleans.{and-true as both}
use Rattle.slotted_lists.proofs.Lists.{slice_get-append_left}
use Rattle.slotted_nodes.specs.Form.{Form}
use Rattle.slotted_model.specs.Find.{Entry, entry_at, find_class}
use Rattle.slotted_classes.specs.Kept.{Kept, entries_of}
use Rattle.slotted_hashcons.specs.Filed.{Filing, filed_of}
use Rattle.slotted_hashcons.specs.FiledRows.{IsFiled, Rows}
use Rattle.slotted_lookup.specs.Reports.{class_sources, is_source}
use Rattle.slotted_lookup.proofs.ReportLists.{next-fails, next-passes}
use Rattle.slotted_match_machine.specs.declared.index.ClassRows.{ClassRows}
use Rattle.slotted_match_machine.specs.declared.index.IndexRow.{IndexRow}
use Rattle.slotted_match_machine.specs.Index.{OneByOne}
use Rattle.slotted_match_machine.specs.Machine.{rows_in, slot_count_in}
use Rattle.slotted_matching.specs.Skeletons.{GrowsTo, StandsAt}
use Rattle.slotted_matching.specs.Indexed.{AreClassRows, AreSourceRows, AreSourcesBelow, IsSourceRow}
use Rattle.slotted_matching.proofs.Building.{OneByOne-push}

-- what passes a test
pub of-filter : (test : ℕ → Bool) (xs : List ℕ) (x : ℕ) → In x (filter test xs) → (test x ≡ true) × In x xs
of-filter test [] x h = absurd h
of-filter test (y ∷ xs) x h = go (test y) refl (of-filter test xs x) h
  where
    go : (b : Bool) → test y ≡ b → (In x (filter test xs) → (test x ≡ true) × In x xs) → In x (cond b (y ∷ filter test xs) (filter test xs)) → (test x ≡ true) × In x (y ∷ xs)
    go true e later (inl i) = (ap test i ∙ e, inl i)
    go true e later (inr i) = let r = later i in (r.0, inr r.1)
    go false e later i = let r = later i in (r.0, inr r.1)

pub in-filter : {X : Type 0} (test : X → Bool) (xs : List X) (x : X) → test x ≡ true → In x xs → In x (filter test xs)
in-filter test [] x t h = absurd h
in-filter {X} test (y ∷ xs) x t h = go (test y) refl (in-filter test xs x t) h
  where
    go : (b : Bool) → test y ≡ b → (In x xs → In x (filter test xs)) → In x (y ∷ xs) → In x (cond b (y ∷ filter test xs) (filter test xs))
    go true e later (inl i) = inl i
    go true e later (inr i) = inr (later i)
    go false e later (inl i) = absurd (false≢true (sym e ∙ (ap test (sym i) ∙ t)))
    go false e later (inr i) = later i

is-filed : (o : Option Filing) → is_some o ≡ true → (e : Filing) × (o ≡ Some e)
is-filed None t = absurd (false≢true t)
is-filed (Some e) t = (e, refl)

module _ (k : Kept) (r : Rows) where
  abbrev found : List Entry
  found = entries_of k

  -- something is filed of a source, and it finds the class
  pub source-is : (c o : ℕ) → is_source k r c o ≡ true → IsFiled r.filed o × (find_class found o ≡ c)
  source-is c o t =
      let h = both (is_some (filed_of r.filed o)) (nat_eq (find_class found o) c) t in
      (is-filed (filed_of r.filed o) h.0, eqb-true (find_class found o) c h.1)

  pub is-source : (c o : ℕ) → IsFiled r.filed o → find_class found o ≡ c → is_source k r c o ≡ true
  is-source c o f e = λ i. is_some (f.1 i) && eq-eqb (find_class found o) c e i

  -- each class of a list of sources has something filed
  pub each-filed : (c : ℕ) → All (IsFiled r.filed) (class_sources k r c)
  each-filed c j d h =
      let o : ℕ = get_or (class_sources k r c) j d in
      (source-is c o (of-filter (is_source k r c) (range_with_len 0 (length r.filed)) o (In-Contains (class_sources k r c) o (Contains-get_or (class_sources k r c) j d h))).0).0

  -- one class after another
  pub no-sources : (v : List (List ℕ)) → length v ≡ length k.classes → ((c : ℕ) → slice_index_or v c [] ≡ []) → AreSourcesBelow k r 0 v
  no-sources v n none = record { count = n; at = λ c h. none c }

  pub source-added : (i : ℕ) (v w : List (List ℕ)) (d : ℕ) → AreSourcesBelow k r i v → d ≡ find_class found i → d < length k.classes → is_some (filed_of r.filed i) ≡ true →
      w ≡ set v d (slice_index_or v d [] ++ i ∷ []) → AreSourcesBelow k r (i + 1) w
  source-added i v w d a e h t is = record {
    count = ap length is ∙ (length-set v d (slice_index_or v d [] ++ i ∷ []) ∙ a.count);
    at = λ c l. ap (λ u. slice_index_or u c []) is ∙ at c l;
  }
    where
      at : (c : ℕ) → c < length k.classes → slice_index_or (set v d (slice_index_or v d [] ++ i ∷ [])) c [] ≡ filter (is_source k r c) (range_with_len 0 (i + 1))
      at c l = elim (cases_eq d c) [
        | inl same ↦
            let here : is_source k r c i ≡ true = λ j. t j && eq-eqb (find_class found i) c (sym e ∙ same) j in
            let w : d < length v = omega (arith, h, a.count) in
            ap (λ n. slice_index_or (set v d (slice_index_or v d [] ++ i ∷ [])) n []) (sym same)
            ∙ (get_or-set_same v d (slice_index_or v d [] ++ i ∷ []) [] w
            ∙ (ap (λ n. slice_index_or v n [] ++ i ∷ []) same ∙ (ap (λ xs. xs ++ i ∷ []) (a.at c l) ∙ next-passes (is_source k r c) i here)))
        | inr other ↦
            let not : is_source k r c i ≡ false = λ j. t j && ne_eqb (find_class found i) c (λ q. other (e ∙ q)) j in
            let away : c ≢ d = λ q. other (sym q) in
            get_or-set_other v d c (slice_index_or v d [] ++ i ∷ []) [] away ∙ (a.at c l ∙ next-fails (is_source k r c) i not)
      ]

  pub source-passed : (i : ℕ) (v : List (List ℕ)) → AreSourcesBelow k r i v → is_some (filed_of r.filed i) ≡ false → AreSourcesBelow k r (i + 1) v
  source-passed i v a t = record {
    count = a.count;
    at = λ c l. a.at c l ∙ next-fails (is_source k r c) i (ap (λ b. b && nat_eq (find_class found i) c) t);
  }

-- forms stay where they are
pub grows-then : (S T U : List Form) → GrowsTo S T → GrowsTo T U → GrowsTo S U
grows-then S T U a b = (a.0 ++ b.0, b.1 ∙ (ap (λ l. l ++ b.0) a.1 ∙ append_assoc S a.0 b.0))

pub stands-later : (S T : List Form) (f : Form) (n : ℕ) → GrowsTo S T → StandsAt S f n → StandsAt T f n
stands-later S T f n g e = subst (λ l. StandsAt l f n) (sym g.1) (slice_get-append_left S g.0 n f e)

pub OneByOne-map : {A B : Type 0} (P Q : A → B → Type 0) → ((a : A) (b : B) → P a b → Q a b) → (xs : List A) (ys : List B) → OneByOne P xs ys → OneByOne Q xs ys
OneByOne-map P Q f [] [] h = tt
OneByOne-map P Q f [] (y ∷ ys) h = h
OneByOne-map P Q f (x ∷ xs) [] h = h
OneByOne-map P Q f (x ∷ xs) (y ∷ ys) h = (f x y h.0, OneByOne-map P Q f xs ys h.1)

module _ (k : Kept) (r : Rows) (S T : List Form) (grows : GrowsTo S T) where
  row-later : (o : ℕ) (row : IndexRow) → IsSourceRow k r S o row → IsSourceRow k r T o row
  row-later o row is = record { is = is.is; place = stands-later S T _ row.outline grows is.place }

  pub rows-later : (os : List ℕ) (rows : List IndexRow) → OneByOne (IsSourceRow k r S) os rows → OneByOne (IsSourceRow k r T) os rows
  rows-later os rows h = OneByOne-map (IsSourceRow k r S) (IsSourceRow k r T) row-later os rows h

  pub sources-later : (os : List ℕ) (rows : List IndexRow) → AreSourceRows k r S os rows → AreSourceRows k r T os rows
  sources-later os rows a = record { order = a.order; same = a.same; each = rows-later a.order rows a.each }

  -- one row more
  pub rows-more : (os : List ℕ) (i d : ℕ) (rows : List IndexRow) (row : IndexRow) → i < length os → OneByOne (IsSourceRow k r S) (take i os) rows → IsSourceRow k r T (get_or os i d) row →
      OneByOne (IsSourceRow k r T) (take (i + 1) os) (rows ++ row ∷ [])
  rows-more os i d rows row h so is =
      subst (λ l. OneByOne (IsSourceRow k r T) l (rows ++ row ∷ [])) (sym (take_more os i d h))
      (OneByOne-push (IsSourceRow k r T) (take i os) rows (get_or os i d) row (rows-later (take i os) rows so) is)

  -- one class more
  pub classes-more : (n : ℕ) (classes : List ClassRows) (class : ClassRows) → AreClassRows k r S n classes → class.slot_count ≡ length (entry_at (entries_of k) n).pairs →
      AreSourceRows k r T (class_sources k r n) class.rows.items → AreClassRows k r T (n + 1) (classes ++ class ∷ [])
  classes-more n classes class a slots rows = record {
    count = length-append classes (class ∷ []) ∙ ap (λ m. m + 1) a.count;
    slot_counts = λ c h. elim (cases_lt c n) [
      | inl l ↦ before-count classes class c (omega (arith, l, a.count)) ∙ a.slot_counts c l
      | inr ge ↦
          let e : c ≡ n = omega (arith, ge, h) in
          ap (slot_count_in (classes ++ class ∷ [])) (e ∙ sym a.count) ∙ (there-count classes class ∙ (slots ∙ ap (λ m. length (entry_at (entries_of k) m).pairs) (sym e)))
    ];
    rows = λ c h. elim (cases_lt c n) [
      | inl l ↦ subst (AreSourceRows k r T (class_sources k r c)) (sym (before-rows classes class c (omega (arith, l, a.count)))) (sources-later (class_sources k r c) (rows_in classes c) (a.rows c l))
      | inr ge ↦
          let e : c ≡ n = omega (arith, ge, h) in
          subst (λ m. AreSourceRows k r T (class_sources k r m) (rows_in (classes ++ class ∷ []) m)) (sym e)
          (subst (AreSourceRows k r T (class_sources k r n)) (sym (ap (rows_in (classes ++ class ∷ [])) (sym a.count) ∙ there-rows classes class)) rows)
    ];
  }
    where
      before-rows : (classes : List ClassRows) (class : ClassRows) (c : ℕ) → c < length classes → rows_in (classes ++ class ∷ []) c ≡ rows_in classes c
      before-rows [] class c h = absurd (omega (arith, h))
      before-rows (x ∷ classes) class zero h = refl
      before-rows (x ∷ classes) class (suc c) h = before-rows classes class c (omega (arith, h))

      before-count : (classes : List ClassRows) (class : ClassRows) (c : ℕ) → c < length classes → slot_count_in (classes ++ class ∷ []) c ≡ slot_count_in classes c
      before-count [] class c h = absurd (omega (arith, h))
      before-count (x ∷ classes) class zero h = refl
      before-count (x ∷ classes) class (suc c) h = before-count classes class c (omega (arith, h))

      there-rows : (classes : List ClassRows) (class : ClassRows) → rows_in (classes ++ class ∷ []) (length classes) ≡ class.rows.items
      there-rows [] class = refl
      there-rows (x ∷ classes) class = there-rows classes class

      there-count : (classes : List ClassRows) (class : ClassRows) → slot_count_in (classes ++ class ∷ []) (length classes) ≡ class.slot_count
      there-count [] class = refl
      there-count (x ∷ classes) class = there-count classes class

-- The slots of a pattern, by the first node that has one, and what several conditions read one after the other.
use Rattle.std.proofs.Common.{◌≡◌, ◌∙◌, ℕ, List, ◌∷◌, ◌++◌, Bool, true, false, cond, refl, ap, sym}
use Rattle.std.specs.Prelude.{Box, not, ◌||◌, Option, None, Some, is_some}
use Rattle.std.specs.Option.{option_or}
use Rattle.std.specs.declared.alloc.Global.{Global}
use Rattle.std.proofs.lemmas.List.Folds.{find-append}
use Rattle.slotted_slots.specs.declared.error.Error.{Error}
use Rattle.slotted_patterns.specs.Tree.{PatternTree, enode, pvar, substitution, PatternRow, no_more, one_more}
use Rattle.slotted_rule_patterns.specs.Inside.{first_such}
use Rattle.slotted_rule_patterns.proofs.FirstInside.{asked-node, asked-own, asked-row, asked-substitution, row_such}
use Rattle.slotted_rule_patterns.proofs.Questions.{or-false}
use Rattle.slotted_rules.specs.declared.condition_tree.CondTree.{CondTree}
use Rattle.slotted_rules.specs.declared.condition_tree.CondTree.TheFolds.{fold-roll-CondTree}
use Rattle.slotted_rules.specs.declared.condition_tree.CondTree.TheOpen.{CondTree-F}
use Rattle.slotted_rules.specs.declared.condition_tree.CondTree.TheVariants as tree
use Rattle.slotted_rules.specs.Reading.{ReadName, first_unread, has_name, has_read_name, is_node_with, reads_step, stands_in, stands_in_row, tree_reads, IsUnread, IsUnreadOf}

module _ (x : ℕ) where
  abbrev holds : PatternTree → Bool
  holds = is_node_with x

  mutual
    pub asks-slot : (t : PatternTree) → is_some (first_such holds t) ≡ stands_in x t
    asks-slot (enode f row) = asked-node holds f row ∙ ap (λ b. b || has_name x f) (asks-slots row)
    asks-slot (pvar v) = asked-own holds (pvar v)
    asks-slot (substitution b p v) =
        asked-substitution holds b p v
        ∙ (λ i. asks-slot b i || (asks-slot p i || (or-false (is_some (first_such holds v)) ∙ asks-slot v) i))

    asks-slots : (row : PatternRow) → is_some (row_such holds row) ≡ stands_in_row x row
    asks-slots no_more = refl
    asks-slots (one_more p rest) = asked-row holds p rest ∙ (λ i. asks-slot p i || asks-slots rest i)

or-first : {A : Type 0} (a b : Option A) (n : A) → a ≡ Some n → option_or a b ≡ Some n
or-first None b n e = absurd (cc)
or-first (Some m) b n e = e

or-second : {A : Type 0} (a b : Option A) → a ≡ None → option_or a b ≡ b
or-second None b e = refl
or-second (Some m) b e = absurd (cc)

-- the first of two lists that are read one after the other
module _ (t : PatternTree) (first second : List ReadName) where
  appended : first_unread t (first ++ second) ≡ option_or (first_unread t first) (first_unread t second)
  appended = find-append (λ n. not (has_read_name t n)) first second

  pub unread-first : (e : Error) → IsUnreadOf t first e → IsUnreadOf t (first ++ second) e
  unread-first e u = (u.0, appended ∙ or-first (first_unread t first) (first_unread t second) u.0 u.1, u.2)

  pub unread-second : (e : Error) → first_unread t first ≡ None → IsUnreadOf t second e → IsUnreadOf t (first ++ second) e
  unread-second e none u = (u.0, appended ∙ (or-second (first_unread t first) (first_unread t second) none ∙ u.1), u.2)

  pub none-unread : first_unread t first ≡ None → first_unread t second ≡ None → first_unread t (first ++ second) ≡ None
  none-unread none other = appended ∙ (or-second (first_unread t first) (first_unread t second) none ∙ other)

-- the first of some names, if the left side lacks that one or has it
module _ (t : PatternTree) (n : ReadName) (rest : List ReadName) where
  pub unread-here : (e : Error) → has_read_name t n ≡ false → IsUnread n e → IsUnreadOf t (n ∷ rest) e
  unread-here e lacks is = (n, ap (λ b. cond (not b) (Some n) (first_unread t rest)) lacks, is)

  pub unread-later : (e : Error) → has_read_name t n ≡ true → IsUnreadOf t rest e → IsUnreadOf t (n ∷ rest) e
  unread-later e has u = (u.0, ap (λ b. cond (not b) (Some n) (first_unread t rest)) has ∙ u.1, u.2)

-- a tree over two others
pub or-reads : (a b : Box CondTree Global) → tree_reads (tree.Or a b) ≡ tree_reads a.value ++ tree_reads b.value
or-reads a b = ap tree_reads (sym (tree.rolls-Or a b)) ∙ fold-roll-CondTree (List ReadName) reads_step (CondTree-F.Or a b)

pub and-reads : (a b : Box CondTree Global) → tree_reads (tree.And a b) ≡ tree_reads a.value ++ tree_reads b.value
and-reads a b = ap tree_reads (sym (tree.rolls-And a b)) ∙ fold-roll-CondTree (List ReadName) reads_step (CondTree-F.And a b)

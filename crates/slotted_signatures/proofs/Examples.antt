-- What an e-node over patterns shows.
use Rattle.std.proofs.Common.{◌≡◌, ℕ, List, length, map, Bool, true, false, sym, ap, ◌∙◌, Vec}
use Rattle.std.specs.Prelude.{◌&&◌, ◌==◌, Some, None, if◌then◌else◌}
use Rattle.std.specs.List.{list_all}
use Rattle.std.specs.declared.alloc.Global.{Global}
use Rattle.std.proofs.lemmas.List.{length-map}
use Rattle.slotted_patterns.specs.Tree.{PatternTree, enode, row_of}
use Rattle.slotted_patterns.specs.View.{tree_of}
use Rattle.slotted_patterns.specs.declared.pattern.Pattern.{Pattern, ENode}
use Rattle.slotted_patterns.proofs.Folds.{patterns_in-row}
use Rattle.slotted_patterns.proofs.PatternTrees.{tree_of-ENode}
use Rattle.slotted_symbols.specs.Arguments.{elements, kinds}
use Rattle.slotted_symbols.specs.SymbolForms.{symbol_form}
use Rattle.slotted_symbols.specs.declared.symbol_lang.SymbolLang.{SymbolLang}
use Rattle.slotted_signatures.specs.Kinds.{number_of}
use Rattle.slotted_signatures.specs.Shown.{has_more, is_word, is_dots, last_of, passes, is_child, shown_by, usage_of}
use Rattle.slotted_signatures.specs.Usage.{Usage}
use Rattle.slotted_signatures.proofs.KindNumbers.{kinds-elements}

pub more-is : (n : SymbolLang) (trees : List PatternTree) → has_more (symbol_form n) (row_of trees) ≡ (passes is_child (last_of (map number_of n.arguments)) && passes is_dots (last_of trees))
more-is n trees =
    λ i. passes is_child (last_of (kinds-elements n.arguments i)) && passes is_dots (last_of (patterns_in-row trees i))

module _ (p : Pattern SymbolLang) (n : SymbolLang) (ps : Vec (Pattern SymbolLang) Global) (is : p ≡ ENode n ps) where
  abbrev trees : List PatternTree
  trees = map (tree_of symbol_form) ps.items

  kind-count : length (kinds (elements n.arguments)) ≡ length n.arguments
  kind-count = ap length (kinds-elements n.arguments) ∙ length-map n.arguments number_of

  view : tree_of symbol_form p ≡ enode (symbol_form n) (row_of trees)
  view = ap (tree_of symbol_form) is ∙ tree_of-ENode symbol_form n ps

  pub word-is : is_word (tree_of symbol_form p) ≡ ((length n.arguments == 0) && (length ps.items == 0))
  word-is =
      ap is_word view
      ∙ ((λ i. (kind-count i == 0) && (length (patterns_in-row trees i) == 0)) ∙ ap (λ k. (length n.arguments == 0) && (k == 0)) (length-map ps.items (tree_of symbol_form)))

  module _ (text : List ℕ) (words : Bool) (all : words ≡ list_all is_word trees) where
    shown-is : shown_by text (tree_of symbol_form p) ≡ (if words then Some (usage_of (symbol_form n) (has_more (symbol_form n) (row_of trees)) text) else None)
    shown-is =
        ap (shown_by text) view
        ∙ ap (λ b. if b then Some (usage_of (symbol_form n) (has_more (symbol_form n) (row_of trees)) text) else None) (ap (list_all is_word) (patterns_in-row trees) ∙ sym all)

    pub shows-none : words ≡ false → None ≡ shown_by text (tree_of symbol_form p)
    shows-none e =
        sym (shown-is ∙ ap (λ b. if b then Some (usage_of (symbol_form n) (has_more (symbol_form n) (row_of trees)) text) else None) e)

    pub shows : (more : Bool) (u : Usage) → words ≡ true → more ≡ has_more (symbol_form n) (row_of trees) → u ≡ usage_of (symbol_form n) more text → Some u ≡ shown_by text (tree_of symbol_form p)
    shows more u e m is =
        ap Some (is ∙ ap (λ b. usage_of (symbol_form n) b text) m)
        ∙ sym (shown-is ∙ ap (λ b. if b then Some (usage_of (symbol_form n) (has_more (symbol_form n) (row_of trees)) text) else None) e)

use Rattle.std.proofs.Common.{ap, sym, ◌∙◌}
use Rattle.std.specs.Prelude.{codes}
use Rattle.slotted_lists.proofs.Splitting.{rest_behind-none, parts_around-none, split}
use Rattle.slotted_commands.specs.Commands.{pair_by, rest_behind, of_two, compares, unites, explains}
use Rattle.slotted_commands.proofs.Splitting.{stripped, pair_line}
use Rattle.slotted_commands.proofs.command.Command.read_pair.Goals as goal

pub returns-in-Some-split_once : goal.returns-in-Some-split_once
returns-in-Some-split_once c =
    let line = c.args.line.now in
    let texts = stripped (codes "eq ") line _ c.in-Some.ensures.cases in
    let parts = split (codes " == ") c.in-Some.texts.now _ _ c.in-Some-split_once.ensures.cases in
    sym (ap (λ o. pair_by o (rest_behind (codes "union ") line) (rest_behind (codes "explain ") line)) texts ∙ ap (of_two compares) parts) ∙ pair_line line

pub returns-in-None : goal.returns-in-None
returns-in-None c =
    let line = c.args.line.now in
    let texts = stripped (codes "eq ") line _ c.in-Some.ensures.cases in
    let none = parts_around-none (codes " == ") c.in-Some.texts.now c.in-None.ensures.cases in
    sym (ap (λ o. pair_by o (rest_behind (codes "union ") line) (rest_behind (codes "explain ") line)) texts ∙ ap (of_two compares) none) ∙ pair_line line

pub returns-in-Some-split_once-2 : goal.returns-in-Some-split_once-2
returns-in-Some-split_once-2 c =
    let line = c.args.line.now in
    let not_eq = rest_behind-none (codes "eq ") line c.in_default.ensures.cases in
    let texts = stripped (codes "union ") line _ c.in-Some-strip_prefix.ensures.cases in
    let parts = split (codes " == ") c.in-Some-strip_prefix.texts.now _ _ c.in-Some-split_once-2.ensures.cases in
    sym ((λ i. pair_by (not_eq i) (texts i) (rest_behind (codes "explain ") line)) ∙ ap (of_two unites) parts) ∙ pair_line line

pub returns-in-None-split_once : goal.returns-in-None-split_once
returns-in-None-split_once c =
    let line = c.args.line.now in
    let not_eq = rest_behind-none (codes "eq ") line c.in_default.ensures.cases in
    let texts = stripped (codes "union ") line _ c.in-Some-strip_prefix.ensures.cases in
    let none = parts_around-none (codes " == ") c.in-Some-strip_prefix.texts.now c.in-None-split_once.ensures.cases in
    sym ((λ i. pair_by (not_eq i) (texts i) (rest_behind (codes "explain ") line)) ∙ ap (of_two unites) none) ∙ pair_line line

pub returns-in_default-strip_prefix-2 : goal.returns-in_default-strip_prefix-2
returns-in_default-strip_prefix-2 c =
    let line = c.args.line.now in
    let not_eq = rest_behind-none (codes "eq ") line c.in_default.ensures.cases in
    let not_union = rest_behind-none (codes "union ") line c.in_default-strip_prefix.ensures.cases in
    let not_explain = rest_behind-none (codes "explain ") line c.in_default-strip_prefix-2.ensures.cases in
    sym (λ i. pair_by (not_eq i) (not_union i) (not_explain i)) ∙ pair_line line

pub returns-in-Some-split_once-3 : goal.returns-in-Some-split_once-3
returns-in-Some-split_once-3 c =
    let line = c.args.line.now in
    let not_eq = rest_behind-none (codes "eq ") line c.in_default.ensures.cases in
    let not_union = rest_behind-none (codes "union ") line c.in_default-strip_prefix.ensures.cases in
    let texts = stripped (codes "explain ") line _ c.in-Some-strip_prefix-2.ensures.cases in
    let parts = split (codes " == ") c.in-Some-strip_prefix-2.texts.now _ _ c.in-Some-split_once-3.ensures.cases in
    sym ((λ i. pair_by (not_eq i) (not_union i) (texts i)) ∙ ap (of_two explains) parts) ∙ pair_line line

pub returns-in-None-split_once-2 : goal.returns-in-None-split_once-2
returns-in-None-split_once-2 c =
    let line = c.args.line.now in
    let not_eq = rest_behind-none (codes "eq ") line c.in_default.ensures.cases in
    let not_union = rest_behind-none (codes "union ") line c.in_default-strip_prefix.ensures.cases in
    let texts = stripped (codes "explain ") line _ c.in-Some-strip_prefix-2.ensures.cases in
    let none = parts_around-none (codes " == ") c.in-Some-strip_prefix-2.texts.now c.in-None-split_once-2.ensures.cases in
    sym ((λ i. pair_by (not_eq i) (not_union i) (texts i)) ∙ ap (of_two explains) none) ∙ pair_line line

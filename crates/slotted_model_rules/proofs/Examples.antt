-- The laws held against small graphs, computed.
pub mod SubstitutionExamples
pub mod ReplacingExamples
pub mod ReplacedIdsExamples
pub mod RepresentingExamples
pub mod PatternExamples
pub mod MatchingExamples
pub mod RunnerExamples
pub mod RuleExamples
pub mod ConditionExamples
pub mod RunExamples
pub mod LookUpExamples
pub mod AnswerExamples
pub mod CallExamples
pub mod GoalExamples
pub mod HiddenExamples
pub mod InstanceExamples

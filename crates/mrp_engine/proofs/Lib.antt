pub mod lemmas
pub mod OneOutcome
pub mod ScriptLaws
pub mod SomeDay
pub mod RightDays

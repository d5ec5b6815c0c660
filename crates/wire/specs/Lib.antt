pub mod AnswerViews
pub mod ArgumentView
pub mod ArgumentViews
pub mod Numbers
pub mod OutcomeView
pub mod Short
pub mod SmallViews

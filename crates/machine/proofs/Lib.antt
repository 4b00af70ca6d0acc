-- Laws of the definitions.
pub mod TimersLaws
pub mod BytesLaws

-- Reading, as a function on the kinds of tokens: one function for each rule of the grammar, and one for
-- each look at the next token.
pub mod Looks
pub mod Types
pub mod Expressions
pub mod Assertions
pub mod Instructions
pub mod Classes
unfoldable pub use Looks.*
unfoldable pub use Types.*
unfoldable pub use Expressions.*
unfoldable pub use Assertions.*
unfoldable pub use Instructions.*
unfoldable pub use Classes.*

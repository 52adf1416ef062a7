-- The grammar: which kinds of tokens spell which tree (ECMA-367, clause 8). Every span of a tree is nought here. The
-- number beside it is the greatest nesting of a token: how many constructs are around it, from the routine's body or
-- the clause on. The constructs are pairs of parentheses, lists of actuals, operators around their operands, dots
-- around their targets, `if`s, loops, `check`s and separate blocks; a construct's own tokens aren't inside it.
pub mod Operators
pub mod Types
pub mod Expressions
pub mod Assertions
pub mod Instructions
pub mod Classes
pub use Operators.*
pub use Types.*
pub use Expressions.*
pub use Assertions.*
pub use Instructions.*
pub use Classes.*

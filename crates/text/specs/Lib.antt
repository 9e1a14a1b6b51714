-- What the definitions say: the grammar and its trees; the operation, and when it is done or refuses. (`Reader` is proved to agree with the
-- grammar, and need not be believed)
pub mod Limits
pub mod Signs
pub mod Letters
pub mod Tree
pub mod Grammar
pub mod Reader
pub mod Text
pub mod Promised
pub mod Inside

-- What the definitions say: the text of a sum; the operation, and when it is done or refuses. (The trees in `Spelling` are proved to be those that the
-- grammar gives the texts, and need not be believed)
pub mod Spelling
pub mod WriteText
pub mod Promised
pub mod Inside

-- What the definitions say: the thirteen refusals; answers and outcomes; checks one after the other; the number for C, and how it is taken apart;
-- areas that are written; how 'one outcome', what a host can hear and a table of cases are stated
pub mod Refusals
pub mod Answers
pub mod Judge
pub mod Host
pub mod Areas
pub mod Quoted
pub mod Promised
pub mod Inside

-- What the definitions say: nodes and their three numbers; formal degree and weight, spread; a node judged over sums that are given (`Like`, which later requests need; no operation names it yet)
pub mod Node
pub mod Formal
pub mod Like
pub mod Inside

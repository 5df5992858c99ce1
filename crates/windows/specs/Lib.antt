-- Where windows come from: the line and the join area. Windows has the contracts of `window` and `whole_length`, Joins that of `fill_join`, on every input.
-- `whole_window` of proofs/WindowEdges.antt and `closed_parts` of proofs/JoinFilled.antt say what follows for a search. Read them in this order.
pub mod Windows
pub mod Joins

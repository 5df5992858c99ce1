-- Document 02, ticket 6: a ring walked the other way round. Reversing has the definitions and the contracts of the three functions; ReversalSamples has codes and
-- rings worked out by hand.
pub mod Reversing
pub mod ReversalSamples

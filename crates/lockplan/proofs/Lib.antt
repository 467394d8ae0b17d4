-- The three demands, what is asked of tidy copies, of straightened ones, of the space that a schedule needs, of the limit of pairs, of the couples at which two threads
-- cross, and of texts without share, of every answer that the promises of the calls let them give.
pub mod Demands
pub mod SamePromises
pub mod WrittenCopies
pub mod TidyCopies
pub mod StraightCopies
pub mod SpaceSuffices
pub mod PairLimit
pub mod ThreadCrossings
pub mod KeptAnswers

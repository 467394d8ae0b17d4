-- The kind of a verdict, computed; the three demands; what is asked of tidy copies, of straightened ones, of the space that a schedule needs, of the limit of pairs, of the
-- couples at which two threads cross, and of texts without share.
pub mod VerdictKind
pub mod Demands
pub mod TidyCopies
pub mod StraightCopies
pub mod SpaceSuffices
pub mod PairLimit
pub mod ThreadCrossings
pub mod KeptAnswers

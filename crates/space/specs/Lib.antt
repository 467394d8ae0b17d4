-- The space that a schedule needs: the promises of the calls, and the slip, with examples.
pub mod Slip
pub mod Examples

-- General definitions: a choice by a flag, bytes, writes into a lent buffer, masks, ascending lists, sums.
pub mod Choice
pub mod Bytes
pub mod Wrote
pub mod Mask
pub mod Ascending
pub mod Sums

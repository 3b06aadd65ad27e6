mod Refusals
mod Tables
mod Joins

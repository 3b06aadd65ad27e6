mod Calling
mod Counting
mod Deciding

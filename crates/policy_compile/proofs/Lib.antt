mod Texts
mod Summed

mod Calling
mod Choosing
mod Moved
mod Owned
mod Standing
mod Telling
mod Viewing
mod Walking

mod Answering
mod Headlines
mod Making
mod Offered
mod Performing
mod Verified
mod Vetted

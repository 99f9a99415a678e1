mod Numbers
mod Replies

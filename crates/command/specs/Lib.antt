-- The definitions of what a privileged operation's code hands back.
pub mod Transfer
